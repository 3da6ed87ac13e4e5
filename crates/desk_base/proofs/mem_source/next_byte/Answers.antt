use Rattle.std.proofs.Common.{◌+◌, map, drop, ◌∙◌, ap, sym, arith}
use Rattle.desk_base.specs.Pieces.{from_first}
use Rattle.desk_base.proofs.PieceLaws.{without_at, skip_one, first_here}
use Rattle.desk_base.proofs.mem_source.next_byte.Goals as goal

pub empty-preserved : goal.empty-preserved
empty-preserved c =
    let p = c.index-pieces-next.result in
    let here = without_at (λ v. v.items) c.args.pieces.now c.empty.next c.empty.at p c.empty-test.true c.index-pieces-next.is in
    sym (ap from_first here ∙ skip_one p.items c.empty.at (drop (c.empty.next + 1) (map (λ v. v.items) c.args.pieces.now)) (omega (arith, c.if-len-at.true))) ∙ c.empty.invariant

pub returns-else-len-at : goal.returns-else-len-at
returns-else-len-at c =
    let p = c.index-pieces-next.result in
    let here = without_at (λ v. v.items) c.args.pieces.now c.empty.next c.empty.at p c.empty-test.true c.index-pieces-next.is in
    here ∙ sym (first_here p.items c.empty.at (drop (c.empty.next + 1) (map (λ v. v.items) c.args.pieces.now)) (omega (arith, c.if-len-at.false))) ∙ sym (ap from_first here) ∙ c.empty.invariant
