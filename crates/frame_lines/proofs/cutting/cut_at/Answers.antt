use Rattle.std.proofs.Common.{arith}
use Rattle.frame_lines.proofs.CutLaws.{lacks_at, lacks_all, cut_here}
use Rattle.frame_lines.proofs.cutting.cut_at.Goals as goal

pub returns : goal.returns
returns c = lacks_all c.args.wanted c.args.bytes.now (λ k lt. c.bytes.invariant k (omega arith))

pub returns-then-byte-wanted : goal.returns-then-byte-wanted
returns-then-byte-wanted c =
    let bytes = c.args.bytes.now in
    let n = c.bytes.place in
    let front = c.split_at.ensures.front in
    record {
      first = rw front (lacks_at c.args.wanted bytes n c.bytes.invariant);
      text = rw front (cut_here c.args.wanted bytes c.split_at.result.1.now c.split_at-then-byte-wanted.result.1.now n c.bytes-test.true c.if-byte-wanted.true c.split_at.ensures.back c.split_at-then-byte-wanted.ensures.back);
    }
