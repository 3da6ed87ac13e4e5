use Rattle.std.proofs.Common.{◌+◌, ◌≤◌, length}
use Rattle.frame_lines.specs.TextLines.{lines_of}
use Rattle.answer_lines.specs.AnswerParts.{before_mark}
use Rattle.answer_lines.proofs.LoopLaws.{SoFar}
use Rattle.answer_lines.proofs.pairing.answer_lines.Given as goal

abbrev pub invariant-lines : goal.invariant-lines
invariant-lines l = record {
  so_far : SoFar (before_mark (lines_of l.text)) (before_mark (lines_of l.rest)) l.number l.next l.fn.out.items l.out.items l.fn.replies.items l.replies.items l.ok;
  few : l.number + length l.rest ≤ length l.text + 1;
}

abbrev pub decreases-lines : goal.decreases-lines
decreases-lines l = length l.rest
