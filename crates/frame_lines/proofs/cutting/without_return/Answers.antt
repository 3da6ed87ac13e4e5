use Rattle.std.proofs.Common.{arith, ◌≡◌, ◌-◌, eqb, get_or, length, false, sym, ◌∙◌, rules, tests}
use Rattle.frame_lines.proofs.CutLaws.{last_returns, last_stays, empty_stays}
use Rattle.frame_lines.proofs.cutting.without_return.Goals.{else-len-gt0-via-then-len-gt0+else-line-len-eq13, else-len-gt0-via-else-len-gt0}
use Rattle.frame_lines.proofs.cutting.without_return.Goals as goal

pub returns-then-line-len-eq13 : goal.returns-then-line-len-eq13
returns-then-line-len-eq13 c = c.split_at.ensures.front ∙ last_returns c.args.line.now c.if-len-gt0.true c.if-line-len-eq13.true

pub returns : goal.returns
returns c =
    elim c.else-len-gt0.branch [
      | else-len-gt0-via-then-len-gt0+else-line-len-eq13 w ↦
          let line = c.args.line.now in
          let other : eqb (get_or line (length line - 1) 0) 13 ≡ false = (let ne = w.if-line-len-eq13.false in search (rules, tests)) in
          sym (last_stays line other)
      | else-len-gt0-via-else-len-gt0 w ↦ sym (empty_stays c.args.line.now (omega arith))
    ]
