use Rattle.std.proofs.Common.{◌≡◌, ◌+◌, ◌≤◌, length}
use Rattle.frame_lines.specs.TextLines.{lines_of}
use Rattle.answer_lines.specs.AnswerParts.{before_mark, behind_mark, number_behind}
use Rattle.answer_lines.proofs.parting.behind_mark.Given as goal

-- what stands behind in the rest stands behind in the text, and the lines before it are counted
abbrev pub invariant-lines : goal.invariant-lines
invariant-lines l = record {
  behind : behind_mark (lines_of l.rest) ≡ behind_mark (lines_of l.text);
  count : l.number + length (before_mark (lines_of l.rest)) ≡ number_behind (lines_of l.text);
  few : l.number + length l.rest ≤ length l.text + 2;
}

abbrev pub decreases-lines : goal.decreases-lines
decreases-lines l = length l.rest
