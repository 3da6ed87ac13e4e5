-- Many calls, one after another: what came, what was given, and what is left.
use Rattle.std.specs.Prelude.{◌≡◌, ℕ, List, [], ◌∷◌, ◌++◌, None, Some, Ok, Err}
use Rattle.std.specs.declared.option.Option.{Option}
use Rattle.std.specs.declared.result.Result.{Result}
use Rattle.channel_frame.specs.declared.frames.Frame.{Frame}
use Rattle.channel_frame.specs.StreamReading.{frames_of, rest_of, fault_of}
use Rattle.channel_frame.specs.SessionBytes.{SessionBytes, no_bytes, with_more, frames_held, settled, placed}
use Rattle.frame_stream.specs.declared.faults.StreamFault.{StreamFault}
use Rattle.frame_stream.specs.StreamSteps.{NextGives}

-- A piece came, or the next frame was asked for and this was answered.
pub data Call : Type 0 where
  Came : List ℕ → Call
  Answered : Result (Option Frame) StreamFault → Call

-- The calls lead from one to the other.
abbrev pub Leads : SessionBytes → List Call → SessionBytes → Type 0
Leads old [] new = old ≡ new
Leads old (Came piece ∷ calls) new = Leads (with_more old piece) calls new
Leads old (Answered answer ∷ calls) new = (between : SessionBytes) × NextGives old between answer × Leads between calls new

-- All bytes that came, joined.
abbrev pub bytes_in : List Call → List ℕ
bytes_in [] = []
bytes_in (Came piece ∷ calls) = piece ++ bytes_in calls
bytes_in (Answered answer ∷ calls) = bytes_in calls

-- The frame of an answer, if it is one.
abbrev pub frame_in : Result (Option Frame) StreamFault → List Frame
frame_in (Ok (Some f)) = f ∷ []
frame_in (Ok None) = []
frame_in (Err e) = []

-- The frames that were given, in order.
abbrev pub frames_in : List Call → List Frame
frames_in [] = []
frames_in (Came piece ∷ calls) = frames_in calls
frames_in (Answered answer ∷ calls) = frame_in answer ++ frames_in calls

-- Whatever the pieces were and whenever it was asked: the frames that were given, and those that are whole in what is held, are the
-- frames of all bytes that came, joined; and what is left is what is left of these.
pub record ReadsAlike (calls : List Call) (b : SessionBytes) : Type 0 where
  pub frames : frames_in calls ++ frames_held b ≡ frames_of (bytes_in calls)
  pub left : settled b ≡ settled (with_more no_bytes (bytes_in calls))

-- Nothing whole is held: all frames were given, and the fault behind them, if there is one, was met.
abbrev pub IsAskedOut : SessionBytes → Type 0
IsAskedOut b = settled b ≡ b

-- Then the frames that were given are those of all bytes that came, joined, and so are the fault and its place; without a fault what
-- is held is the tail of these bytes.
pub record HasRead (calls : List Call) (b : SessionBytes) : Type 0 where
  pub frames : frames_in calls ≡ frames_of (bytes_in calls)
  pub fault : placed b.fault b.given ≡ fault_of (bytes_in calls)
  pub held : b.fault ≡ None → b.held ≡ rest_of (bytes_in calls)
