-- The frames that a text says, and its first line that says none (docs/FORMATS.md, "Lines for people").
use Rattle.std.specs.Prelude.{ℕ, ◌+◌, ◌%◌, ◌^◌, if◌then◌else◌, List, [], ◌∷◌, unwrap_or, None, Some, Ok, Err}
use Rattle.std.specs.declared.option.Option.{Option}
use Rattle.std.specs.declared.result.Result.{Result}
use Rattle.std.specs.List.{flat_map}
use Rattle.channel_frame.specs.declared.frames.Frame.{Frame}
use Rattle.channel_frame.specs.FrameSpelling.{spelling}
use Rattle.frame_lines.specs.declared.lines.Line.{Line}
use Rattle.frame_lines.specs.declared.lines.LineCause.{LineCause}
use Rattle.frame_lines.specs.declared.lines.LineFault.{LineFault}
use Rattle.frame_lines.specs.TextLines.{lines_of, passes}
use Rattle.frame_lines.specs.LineReading.{said_by}

-- The frame of a line: without a sequence number of its own it has the next one. It has no headers.
abbrev pub frame_of : ℕ → Line → Frame
frame_of next line = record { content = line.content; sequence = unwrap_or line.sequence next; headers = []; body = line.body }

-- The sequence number that comes next.
abbrev pub next_after : ℕ → ℕ
next_after sequence = (sequence + 1) % (2 ^ 32)

-- The frame of a line, and those of the lines behind it; none from a line on that says no frame.
abbrev pub and_then_frames : ℕ → Result Line LineCause → (ℕ → List Frame) → List Frame
and_then_frames next (Err cause) rest = []
and_then_frames next (Ok line) rest = frame_of next line ∷ rest (next_after (frame_of next line).sequence)

-- The frames of some lines in order, up to one that says none, where this sequence number comes next.
abbrev pub frames_from : List (List ℕ) → ℕ → List Frame
frames_from [] next = []
frames_from (line ∷ lines) next =
    if passes line then frames_from lines next else and_then_frames next (said_by line) (frames_from lines)

-- The frames that a text says. The first sequence number is 1.
abbrev pub frames_said : List ℕ → List Frame
frames_said text = frames_from (lines_of text) 1

-- The bytes of the frames that a text says, joined.
abbrev pub bytes_said : List ℕ → List ℕ
bytes_said text = flat_map spelling (frames_said text)

-- The fault of a line with its number, or that of the lines behind it.
abbrev pub or_fault : ℕ → Result Line LineCause → Option LineFault → Option LineFault
or_fault number (Err cause) later = Some (record { line = number; cause = cause })
or_fault number (Ok line) later = later

-- The first line that neither passes nor says a frame, where the lines are counted from this number.
abbrev pub fault_from : List (List ℕ) → ℕ → Option LineFault
fault_from [] number = None
fault_from (line ∷ lines) number =
    if passes line then fault_from lines (number + 1) else or_fault number (said_by line) (fault_from lines (number + 1))

-- The fault of a text, if it has one. Its lines are counted from 1, those that pass among them.
abbrev pub fault_said : List ℕ → Option LineFault
fault_said text = fault_from (lines_of text) 1
