use Rattle.std.proofs.Common.{◌≡◌, ℕ, ◌+◌, List, length, sym, ap, ◌∙◌, arith}
use Rattle.frame_lines.specs.TextLines.{lines_of}
use Rattle.answer_lines.specs.AnswerParts.{before_mark, behind_mark}
use Rattle.answer_lines.proofs.PartLaws.{no_mark, at_mark}
use Rattle.answer_lines.proofs.parting.behind_mark.Goals as goal

pub lines-preserved : goal.lines-preserved
lines-preserved c =
    let behind : List (List ℕ) = lines_of c.cut_line.result.1.now in
    let cut = c.cut_line.ensures in
    let apart = no_mark c.cut_line.result.0.now behind (sym c.is_mark.ensures ∙ c.if-is_mark.false) in
    let longer : length (before_mark (lines_of c.lines.rest.now)) ≡ length (before_mark behind) + 1 = ap length (ap before_mark cut.lines ∙ apart.0) ∙ omega arith in
    record {
      behind = sym apart.1 ∙ ap behind_mark (sym cut.lines) ∙ c.lines.invariant.behind;
      count = omega (arith, longer, c.lines.invariant.count);
      few = omega (arith, cut.shorter, c.lines.invariant.few);
    }

pub returns-then-is_mark : goal.returns-then-is_mark
returns-then-is_mark c =
    let behind : List (List ℕ) = lines_of c.cut_line.result.1.now in
    let cut = c.cut_line.ensures in
    let at = at_mark c.cut_line.result.0.now behind (sym c.is_mark.ensures ∙ c.if-is_mark.true) in
    let none : length (before_mark (lines_of c.lines.rest.now)) ≡ 0 = ap length (ap before_mark cut.lines ∙ at.0) in
    record {
      lines = sym at.1 ∙ ap behind_mark (sym cut.lines) ∙ c.lines.invariant.behind;
      number = omega (arith, none, c.lines.invariant.count);
      few = omega (arith, cut.shorter, c.lines.invariant.few);
    }
