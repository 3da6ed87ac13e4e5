use Rattle.std.proofs.Common.{◌≡◌, ◌++◌, length}
use Rattle.std.specs.List.{flat_map}
use Rattle.answer_lines.specs.AnswerLines.{stray_line}
use Rattle.answer_lines.proofs.pairing.put_strays.Given as goal

-- what is put down, and what the replies that are left still give, are all
abbrev pub invariant-replies : goal.invariant-replies
invariant-replies l = l.out.items ++ flat_map stray_line l.replies.items ≡ l.fn.out.items ++ flat_map stray_line l.fn.replies.items

abbrev pub decreases-replies : goal.decreases-replies
decreases-replies l = length l.replies.items
