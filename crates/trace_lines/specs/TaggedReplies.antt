-- Tagged replies read from bytes, and the lines that tell them (docs/FORMATS.md, "Traces and tagged replies", "Lines of traces").
use Rattle.std.specs.Prelude.{◌≡◌, ℕ, zero, suc, ◌+◌, ◌-◌, ◌==◌, if◌then◌else◌, List, [], ◌∷◌, ◌++◌, map, codes, decimal, Ok, Err}
use Rattle.std.specs.declared.option.Option.{Option}
use Rattle.std.specs.declared.result.Result.{Result}
use Rattle.channel_frame.specs.declared.frames.Frame.{Frame}
use Rattle.channel_frame.specs.declared.frames.Front as read
use Rattle.channel_frame.specs.declared.frames.Front.TheVariants as front
use Rattle.channel_frame.specs.StreamReading.{front}
use Rattle.frame_lines.specs.declared.told.TellCause.{TellCause}
use Rattle.frame_lines.specs.declared.told.DecodeCause.TheVariants.{Bad, NoTag}
use Rattle.frame_lines.specs.declared.told.DecodeFault.{DecodeFault}
use Rattle.frame_lines.specs.FrameLines.{line_for}
use Rattle.frame_lines.specs.LineKinds.{Front, Short, Whole, Faulty, Reading}
use Rattle.frame_lines.specs.TextTelling.{text_of, fault_of}
use Rattle.trace_lines.specs.declared.fronts.ReplyFront.{ReplyFront}
use Rattle.trace_lines.specs.declared.fronts.ReplyFront.TheVariants as reply

-- What stands behind a byte 4 and a session.
abbrev pub behind_tag : ℕ → read.Front → ReplyFront
behind_tag s front.Short = reply.Unfinished
behind_tag s (front.Bad e) = reply.Faulty e
behind_tag s (front.Whole f n) = reply.Whole s f (2 + n)

-- What stands at the front of some bytes. Another first byte than 4 is no tag as soon as it is there.
abbrev pub reply_front : List ℕ → ReplyFront
reply_front [] = reply.Unfinished
reply_front (b ∷ []) = if b == 4 then reply.Unfinished else reply.Untagged
reply_front (b ∷ s ∷ bytes) = if b == 4 then behind_tag s (front bytes) else reply.Untagged

-- A whole reply stands at the front of some bytes: an unfinished one, another first byte or a fault is none.
pub record IsWholeReply (bytes : List ℕ) : Type 0 where
  pub session : ℕ
  pub frame : Frame
  pub len : ℕ
  pub stands : reply_front bytes ≡ reply.Whole session frame len

-- A whole reply, and what is read behind it.
abbrev pub and_then_replies : ReplyFront → (ℕ → List (ℕ × Frame)) → List (ℕ × Frame)
and_then_replies reply.Unfinished rest = []
and_then_replies reply.Untagged rest = []
and_then_replies (reply.Faulty e) rest = []
and_then_replies (reply.Whole s f n) rest = (s, f) ∷ rest (n - 1)

-- The replies of some bytes with their sessions, once so many bytes of them are passed over.
abbrev pub replies_past : List ℕ → ℕ → List (ℕ × Frame)
replies_past [] n = []
replies_past (b ∷ bytes) (suc n) = replies_past bytes n
replies_past (b ∷ bytes) zero = and_then_replies (reply_front (b ∷ bytes)) (replies_past bytes)

-- The replies that some bytes are read as.
abbrev pub replies_of : List ℕ → List (ℕ × Frame)
replies_of bytes = replies_past bytes 0

-- The tail from a place on where no reply stands, or what comes behind the reply there.
abbrev pub and_then_rest : List ℕ → ReplyFront → (ℕ → List ℕ) → List ℕ
and_then_rest bytes reply.Unfinished rest = bytes
and_then_rest bytes reply.Untagged rest = bytes
and_then_rest bytes (reply.Faulty e) rest = bytes
and_then_rest bytes (reply.Whole s f n) rest = rest (n - 1)

-- The tail of some bytes, once so many bytes of them are passed over.
abbrev pub rest_past : List ℕ → ℕ → List ℕ
rest_past [] n = []
rest_past (b ∷ bytes) (suc n) = rest_past bytes n
rest_past (b ∷ bytes) zero = and_then_rest (b ∷ bytes) (reply_front (b ∷ bytes)) (rest_past bytes)

-- The tail that is left of some bytes behind their replies.
abbrev pub rest_behind : List ℕ → List ℕ
rest_behind bytes = rest_past bytes 0

-- ---- the lines

-- A line with its session in front.
abbrev pub with_session : ℕ → Result (List ℕ) TellCause → Result (List ℕ) TellCause
with_session s (Err cause) = Err cause
with_session s (Ok line) = Ok (decimal s ++ (codes " " ++ line))

-- The line that tells a reply, or why none does: its session, and the line of its frame.
abbrev pub reply_line : ℕ × Frame → Result (List ℕ) TellCause
reply_line r = with_session r.0 (line_for r.1)

-- What stands at the front of tagged replies that begin at a place, with the line of a reply.
abbrev pub reply_at : ℕ → ReplyFront → Front
reply_at at reply.Unfinished = Short
reply_at at reply.Untagged = Faulty (NoTag at)
reply_at at (reply.Faulty e) = Faulty (Bad e at)
reply_at at (reply.Whole s f n) = Whole (reply_line (s, f)) n

-- Bytes read as tagged replies.
abbrev pub tagged : Reading
tagged = record { front = λ at bytes. reply_at at (reply_front bytes); lines = λ bytes. map reply_line (replies_of bytes); tail = rest_behind }

-- The text that tells the replies of some bytes.
abbrev pub replies_told : List ℕ → List ℕ
replies_told = text_of tagged

-- The fault that ends the text early, if there is one. Replies are counted from 1.
abbrev pub replies_fault : List ℕ → Option DecodeFault
replies_fault = fault_of tagged
