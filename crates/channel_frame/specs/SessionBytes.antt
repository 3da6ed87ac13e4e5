-- The bytes of one session while they come: those that were given as frames, those that are held, and the fault that ended the
-- reading (docs/FORMATS.md, "Channel frame").
use Rattle.std.specs.Prelude.{ℕ, ◌+◌, ◌-◌, List, [], ◌++◌, length, None, Some}
use Rattle.std.specs.declared.option.Option.{Option}
use Rattle.channel_frame.specs.declared.frames.Frame.{Frame}
use Rattle.channel_frame.specs.declared.frames.FrameFault.{FrameFault}
use Rattle.channel_frame.specs.declared.frames.Front.{Front}
use Rattle.channel_frame.specs.declared.frames.Front.TheVariants.{Short, Bad, Whole}
use Rattle.channel_frame.specs.StreamReading.{front, frames_of, rest_of}

-- A session's bytes: how many of them were given as frames, those behind that are held, and the fault that was met, if one was.
-- After a fault nothing is held, and the fault's place in the session is the number given.
pub record SessionBytes : Type 0 where
  pub given : ℕ
  pub held : List ℕ
  pub fault : Option FrameFault

-- A session of which no byte has come.
abbrev pub no_bytes : SessionBytes
no_bytes = record { given = 0; held = []; fault = None }

-- Bytes that come where no fault was met; after a fault they are passed over.
abbrev pub held_with : Option FrameFault → ℕ → List ℕ → List ℕ → SessionBytes
held_with None given held more = record { given = given; held = held ++ more; fault = None }
held_with (Some e) given held more = record { given = given; held = held; fault = Some e }

-- The session's bytes once more of them have come.
abbrev pub with_more : SessionBytes → List ℕ → SessionBytes
with_more b more = held_with b.fault b.given b.held more

-- The frames of bytes whose reading no fault has ended.
abbrev pub frames_unless : Option FrameFault → List ℕ → List Frame
frames_unless None held = frames_of held
frames_unless (Some e) held = []

-- The frames that are whole in what a session holds.
abbrev pub frames_held : SessionBytes → List Frame
frames_held b = frames_unless b.fault b.held

-- What is left by a tail at a place of the session: its bytes where it is unfinished, and its fault where it is faulty.
abbrev pub left_at : Front → ℕ → List ℕ → SessionBytes
left_at Short at rest = record { given = at; held = rest; fault = None }
left_at (Bad e) at rest = record { given = at; held = []; fault = Some e }
left_at (Whole f n) at rest = record { given = at; held = rest; fault = None }

-- What is left of what a session holds; nothing after a fault.
abbrev pub left_unless : Option FrameFault → ℕ → List ℕ → SessionBytes
left_unless None given held = left_at (front (rest_of held)) (given + (length held - length (rest_of held))) (rest_of held)
left_unless (Some e) given held = record { given = given; held = []; fault = Some e }

-- The session's bytes once every frame that is whole in them was given, and the fault behind these, if there is one, was met.
abbrev pub settled : SessionBytes → SessionBytes
settled b = left_unless b.fault b.given b.held

-- A fault that was met, with its place.
abbrev pub placed : Option FrameFault → ℕ → Option (FrameFault × ℕ)
placed None at = None
placed (Some e) at = Some (e, at)

-- The fault of bytes in which none was met before.
abbrev pub fault_unless : Option FrameFault → SessionBytes → Option (FrameFault × ℕ)
fault_unless None left = placed left.fault left.given
fault_unless (Some e) left = None

-- The fault that is known by what a session holds and was not met yet, with its place in the session.
abbrev pub fault_held : SessionBytes → Option (FrameFault × ℕ)
fault_held b = fault_unless b.fault (settled b)
