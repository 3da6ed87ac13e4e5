-- The frame that answers a frame that was shipped (docs/FORMATS.md, "Replies of a follower").
use Rattle.std.specs.Prelude.{ℕ, Bool, true, false, if◌then◌else◌, List, [], ◌∷◌, codes}
use Rattle.serde_json.specs.Data.{Data, string, object, member, no_members}
use Rattle.serde_json.specs.Written.{compact_text}
use Rattle.channel_frame.specs.declared.frames.Frame.{Frame}
use Rattle.channel_frame.specs.FrameSpelling.{number}
use Rattle.reply_codec.specs.ReplyBody.{natural, plain_refusal}
use Rattle.follow_core.specs.declared.taken.Taken.{Taken}
use Rattle.follow_core.specs.declared.taken.Taken.TheVariants.{Took, Repeat, Old, Piece, Skipped, Ahead, BadShip, BadBatch, Differs, Full, MarkFull}

-- Whether nothing was refused.
abbrev pub is_taken : Taken → Bool
is_taken Took = true
is_taken Repeat = true
is_taken Old = true
is_taken Piece = true
is_taken _ = false

-- What is told of a frame that was not refused: the copy's own serial, and what became of the frame.
abbrev pub told_taken : (own : ℕ) → (word : List ℕ) → Data
told_taken own word = object (member (codes "own") (natural own) (member (codes "taken") (string word) no_members))

-- What is told of another batch than the kept one: the place at which they differ, and their serial.
abbrev pub told_differs : (serial at : ℕ) → Data
told_differs serial at = object (
    member (codes "at") (natural at)
    (member (codes "code") (natural 62)
    (member (codes "name") (string (codes "Differs"))
    (member (codes "serial") (natural serial)
    no_members))))

-- What is told of a batch of rows that the copy has not: its own serial.
abbrev pub told_ahead : (own : ℕ) → Data
told_ahead own = object (
    member (codes "code") (natural 63)
    (member (codes "name") (string (codes "Ahead"))
    (member (codes "own") (natural own)
    no_members)))

-- What is told of a frame by a copy of this serial.
abbrev pub taken_object : (own : ℕ) → Taken → Data
taken_object own Took = told_taken own (codes "Took")
taken_object own Repeat = told_taken own (codes "Repeat")
taken_object own Old = told_taken own (codes "Old")
taken_object own Piece = told_taken own (codes "Piece")
taken_object own Skipped = plain_refusal 64 (codes "Skipped")
taken_object own Ahead = told_ahead own
taken_object own BadShip = plain_refusal 60 (codes "BadShip")
taken_object own BadBatch = plain_refusal 61 (codes "BadBatch")
taken_object own (Differs serial at) = told_differs serial at
taken_object own Full = plain_refusal 40 (codes "JournalFull")
taken_object own MarkFull = plain_refusal 41 (codes "MarkFull")

-- The frame: content type 2, the session's count of replies as its sequence number, the sequence number of the frame that it answers and the flag of
-- success as its headers, and what is told as its body.
abbrev pub taken_frame : (sequence reply_for own : ℕ) → Taken → Frame
taken_frame sequence reply_for own taken = record {
  content = 2;
  sequence = sequence;
  headers = record { key = 1; value = number reply_for } ∷ record { key = 2; value = (if is_taken taken then 1 else 0) ∷ [] } ∷ [];
  body = compact_text (taken_object own taken);
}
