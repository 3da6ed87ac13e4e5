-- What one call does to a session's bytes.
use Rattle.std.specs.Prelude.{◌≡◌, ℕ, ◌+◌, ◌≤◌, List, [], length, drop, None, Some, Ok, Err, ⊤, ◌⊎◌}
use Rattle.std.specs.declared.option.Option.{Option}
use Rattle.std.specs.declared.result.Result.{Result}
use Rattle.channel_frame.specs.declared.frames.Frame.{Frame}
use Rattle.channel_frame.specs.declared.frames.Head.{Head}
use Rattle.channel_frame.specs.declared.frames.FrameFault.{FrameFault}
use Rattle.channel_frame.specs.declared.frames.FrameFault.TheVariants as frame_fault
use Rattle.channel_frame.specs.declared.frames.Front.TheVariants as front_is
use Rattle.channel_frame.specs.StreamReading.{front}
use Rattle.channel_frame.specs.AnnouncedFrames.{first_head, IsWholeFront}
use Rattle.channel_frame.specs.SessionBytes.{SessionBytes}
use Rattle.frame_stream.specs.declared.faults.StreamFault.{StreamFault}
use Rattle.frame_stream.specs.declared.faults.StreamFault.TheVariants.{Bad, NoMemory}

-- The number by which a fault is told. A reading never has the last.
abbrev pub fault_number : FrameFault → ℕ
fault_number frame_fault.BadMarker = 1
fault_number frame_fault.TooLong = 2
fault_number frame_fault.BadHeaders = 3
fault_number frame_fault.NoMemory = 0

-- The most bytes of an unfinished frame: one fewer than a frame may have.
abbrev pub most_frame : ℕ
most_frame = 1114131

-- The session's bytes once so many of those held were given.
abbrev pub without_front : SessionBytes → ℕ → SessionBytes
without_front b n = record { given = b.given + n; held = drop n b.held; fault = None }

-- The session's bytes once this fault of those held was met.
abbrev pub at_fault : SessionBytes → FrameFault → SessionBytes
at_fault b e = record { given = b.given; held = []; fault = Some e }

-- The frame at the front of the bytes held is taken off.
pub record TakesFrame (old new : SessionBytes) (f : Frame) : Type 0 where
  pub none : old.fault ≡ None
  pub len : ℕ
  pub there : front old.held ≡ front_is.Whole f len
  pub after : new ≡ without_front old len

-- The fault at the front of the bytes held is met, at this place.
pub record MeetsFault (old new : SessionBytes) (e : FrameFault) (at : ℕ) : Type 0 where
  pub none : old.fault ≡ None
  pub there : front old.held ≡ front_is.Bad e
  pub place : at ≡ old.given
  pub after : new ≡ at_fault old e

-- The fault was met before, at this place, and nothing is held.
pub record HasMetFault (old new : SessionBytes) (e : FrameFault) (at : ℕ) : Type 0 where
  pub some : old.fault ≡ Some e
  pub held : old.held ≡ []
  pub place : at ≡ old.given
  pub same : new ≡ old

-- A fault of a session's bytes: want of memory is none.
abbrev pub IsFault : FrameFault → Type 0
IsFault e = e ≡ frame_fault.NoMemory → ⊥

-- A fault is told by its number, 1, 2 or 3, when it is met and from then on.
abbrev pub TellsFault : SessionBytes → SessionBytes → ℕ → ℕ → Type 0
TellsFault old new n at = (e : FrameFault) × IsFault e × (n ≡ fault_number e) × (MeetsFault old new e at ⊎ HasMetFault old new e at)

-- The bytes held are an unfinished frame or nothing, and few. All stays.
pub record HoldsUnfinished (old new : SessionBytes) : Type 0 where
  pub none : old.fault ≡ None
  pub short : front old.held ≡ front_is.Short
  pub few : length new.held ≤ most_frame
  pub same : new ≡ old

-- No fault was met, and a whole frame stands at the front of the bytes held: for it memory is wanted.
pub record HoldsWhole (b : SessionBytes) : Type 0 where
  pub none : b.fault ≡ None
  pub front : IsWholeFront b.held

-- The next frame, no frame as yet, a fault, or want of memory for the frame at the front: then all stays.
abbrev pub NextGives : SessionBytes → SessionBytes → Result (Option Frame) StreamFault → Type 0
NextGives old new (Ok (Some f)) = TakesFrame old new f
NextGives old new (Ok None) = HoldsUnfinished old new
NextGives old new (Err (Bad n at)) = TellsFault old new n at
NextGives old new (Err NoMemory) = HoldsWhole old × (new ≡ old)

-- ---- what a decoder keeps beside

-- After a fault no bytes are held.
abbrev pub HoldsNoneAfter : Option FrameFault → List ℕ → Type 0
HoldsNoneAfter None held = ⊤
HoldsNoneAfter (Some e) held = IsFault e × (held ≡ [])

-- A head that is known is the one at the front.
abbrev pub KnowsHead : Option Head → List ℕ → Type 0
KnowsHead None held = ⊤
KnowsHead (Some h) held = first_head held ≡ Ok (Some h)
