use Rattle.answer_lines.specs.ReplyPlaces.{AreOthers}
use Rattle.answer_lines.proofs.finding.place_of.Given as goal

-- the replies so far are to other requests
abbrev pub invariant-places : goal.invariant-places
invariant-places l = AreOthers l.sequence l.replies.items l.place
