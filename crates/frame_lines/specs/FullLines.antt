-- Lines in their full form, and the frames that they tell whole (docs/FORMATS.md, "Lines for people").
use Rattle.std.specs.Prelude.{◌≡◌, ◌⊎◌, ℕ, true, List, [], ◌∷◌, ◌++◌, None}
use Rattle.std.specs.Result.{IsOk}
use Rattle.channel_frame.specs.declared.frames.Frame.{Frame}
use Rattle.channel_frame.specs.FrameSpelling.{number}
use Rattle.frame_lines.specs.TextLines.{passes}
use Rattle.frame_lines.specs.LineReading.{said_by}
use Rattle.frame_lines.specs.FrameLines.{frame_words, body_words, body_cause}

-- The full form of a frame's line, with its newline: the sequence number, the content type by its name where it has one, the body.
abbrev pub full_line : Frame → List ℕ
full_line f = frame_words f ++ (body_words f.body ++ 10 ∷ [])

-- A reply: content type 2 and exactly the two headers, with the sequence number of its request and a flag.
abbrev pub reply_with : ℕ → ℕ → ℕ → List ℕ → Frame
reply_with sequence request flag body = record {
  content = 2;
  sequence = sequence;
  headers = record { key = 1; value = number request } ∷ record { key = 2; value = flag ∷ [] } ∷ [];
  body = body;
}

-- A line can tell the body of a frame.
abbrev pub HasToldBody : Frame → Type 0
HasToldBody f = body_cause f.body ≡ None

-- A frame without headers.
abbrev pub HasNoHeaders : Frame → Type 0
HasNoHeaders f = f.headers ≡ []

-- A line of a text that has no fault: it passes, or it says a frame.
abbrev pub IsLine : List ℕ → Type 0
IsLine line = (passes line ≡ true) ⊎ IsOk (said_by line)
