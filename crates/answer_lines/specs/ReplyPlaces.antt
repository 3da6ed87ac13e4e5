-- The place of a reply among some. Only private contracts cite these.
use Rattle.std.specs.Prelude.{◌≡◌, ℕ, ◌<◌, false, true, ◌==◌, List, length, slice_index_or}
use Rattle.answer_lines.specs.declared.replies.ReplyLine.{ReplyLine}

-- The replies before a place are to other requests.
abbrev pub AreOthers : ℕ → List ReplyLine → ℕ → Type 0
AreOthers sequence replies place = (k : ℕ) (any : ReplyLine) → k < place → ((slice_index_or replies k any).sequence == sequence) ≡ false

-- The first reply of some with this sequence number stands at this place.
pub record StandsAt (sequence : ℕ) (replies : List ReplyLine) (place : ℕ) : Type 0 where
  pub within : place < length replies
  pub others : AreOthers sequence replies place
  pub this : (any : ReplyLine) → ((slice_index_or replies place any).sequence == sequence) ≡ true
