-- The head of the frame at the front of some bytes, and whether the whole frame is there (docs/FORMATS.md, "Channel frame").
use Rattle.std.specs.Prelude.{◌≡◌, ℕ, nat_lt, if◌then◌else◌, List, length, None, Some, Ok, Err}
use Rattle.std.specs.declared.option.Option.{Option}
use Rattle.std.specs.declared.result.Result.{Result}
use Rattle.channel_frame.specs.declared.frames.Frame.{Frame}
use Rattle.channel_frame.specs.declared.frames.Head.{Head}
use Rattle.channel_frame.specs.declared.frames.FrameFault.{FrameFault}
use Rattle.channel_frame.specs.declared.frames.Front.TheVariants.{Whole}
use Rattle.channel_frame.specs.FrameSpelling.{head_len}
use Rattle.channel_frame.specs.StreamReading.{head_of, front}

-- A head that is there, or its fault.
abbrev pub there : Result Head FrameFault → Result (Option Head) FrameFault
there (Err e) = Err e
there (Ok h) = Ok (Some h)

-- The head at the front; none is known where fewer bytes than a head are there.
abbrev pub first_head : List ℕ → Result (Option Head) FrameFault
first_head bytes = if nat_lt (length bytes) head_len then Ok None else there (head_of bytes)

-- A whole frame stands at the front of some bytes: an unfinished one, or a fault, is none.
pub record IsWholeFront (bytes : List ℕ) : Type 0 where
  pub frame : Frame
  pub len : ℕ
  pub stands : front bytes ≡ Whole frame len
