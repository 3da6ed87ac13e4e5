use Rattle.std.proofs.Common.{◌≡◌, ◌+◌, ◌≤◌, ◌++◌, length}
use Rattle.frame_lines.specs.TextLines.{lines_of}
use Rattle.answer_lines.specs.ReplyLines.{replies_from, no_reply_from}
use Rattle.answer_lines.proofs.replies.read_replies.Given as goal

-- what is put down and what the rest still tells are all replies; the first line of the rest that tells none is the first
abbrev pub invariant-lines : goal.invariant-lines
invariant-lines l = record {
  replies : l.told.items ++ replies_from (lines_of l.rest) ≡ replies_from (lines_of l.text);
  fault : no_reply_from (lines_of l.rest) l.number ≡ no_reply_from (lines_of l.text) l.first;
  few : l.number + length l.rest ≤ l.first + length l.text;
}

abbrev pub decreases-lines : goal.decreases-lines
decreases-lines l = length l.rest
