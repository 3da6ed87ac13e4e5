-- What each session sent and got completed, said of all its bytes at once (docs/FORMATS.md, "Traces and tagged replies").
use Rattle.std.specs.Prelude.{◌≡◌, ℕ, ◌==◌, if◌then◌else◌, List, [], ◌∷◌, ◌++◌}
use Rattle.channel_frame.specs.declared.frames.Frame.{Frame}
use Rattle.channel_frame.specs.StreamReading.{frames_of}
use Rattle.session_mux.specs.declared.events.Event.{Event}
use Rattle.session_mux.specs.declared.events.Event.TheVariants as event
use Rattle.session_mux.specs.Arrivals.{Arrival, Open, Data, Close}
use Rattle.session_mux.specs.Completion.{unopened, sessions_along, events_along}

-- All bytes of a session that some records bring, joined.
abbrev pub joined : ℕ → List Arrival → List ℕ
joined s [] = []
joined s (Open t who ∷ arrivals) = joined s arrivals
joined s (Data t bytes ∷ arrivals) = (if t == s then bytes else []) ++ joined s arrivals
joined s (Close t ∷ arrivals) = joined s arrivals

-- The frame of an event, if it is one of this session's.
abbrev pub own_frame : ℕ → Event → List Frame
own_frame s (event.Opened t who) = []
own_frame s (event.Arrived t frame) = if t == s then frame ∷ [] else []
own_frame s (event.Ended t fault at) = []
own_frame s (event.Closed t rest) = []

-- The frames of a session among some events, in order.
abbrev pub own_frames : ℕ → List Event → List Frame
own_frames s [] = []
own_frames s (e ∷ events) = own_frame s e ++ own_frames s events

-- By a front of the records of a trace exactly those frames have come that are whole in its bytes: of each session those of all its
-- bytes that the front brings, joined. What the other records bring comes behind.
pub record CompletesBy (first later : List Arrival) : Type 0 where
  pub each : (s : ℕ) → own_frames s (events_along unopened first) ≡ frames_of (joined s first)
  pub all : (s : ℕ) → own_frames s (events_along unopened (first ++ later)) ≡ frames_of (joined s (first ++ later))
  pub order : events_along unopened (first ++ later) ≡ events_along unopened first ++ events_along (sessions_along unopened first) later
