-- The lines that tell what some bytes are read as, and what ends them early (docs/FORMATS.md, "Lines for people").
use Rattle.std.specs.Prelude.{ℕ, ◌+◌, ◌-◌, List, [], ◌∷◌, ◌++◌, length, map, None, Some, Ok, Err}
use Rattle.std.specs.declared.option.Option.{Option}
use Rattle.std.specs.declared.result.Result.{Result}
use Rattle.channel_frame.specs.declared.frames.Frame.{Frame}
use Rattle.channel_frame.specs.declared.frames.Front as read
use Rattle.channel_frame.specs.declared.frames.Front.TheVariants as stands
use Rattle.channel_frame.specs.StreamReading.{front, frames_of, rest_of}
use Rattle.frame_lines.specs.declared.told.TellCause.{TellCause}
use Rattle.frame_lines.specs.declared.told.DecodeCause.TheVariants.{Untold, Bad, Unfinished}
use Rattle.frame_lines.specs.declared.told.DecodeFault.{DecodeFault}
use Rattle.frame_lines.specs.FrameLines.{line_for}
use Rattle.frame_lines.specs.LineKinds.{Front, Short, Whole, Faulty, Reading}

-- ---- of a kind of items

-- A line with its newline, and what is told behind it; nothing from an item on that no line tells.
abbrev pub and_then_lines : Result (List ℕ) TellCause → List ℕ → List ℕ
and_then_lines (Err cause) rest = []
and_then_lines (Ok line) rest = line ++ 10 ∷ rest

-- The lines of some items in order, each with its newline, up to one that no line tells.
abbrev pub lines_until : List (Result (List ℕ) TellCause) → List ℕ
lines_until [] = []
lines_until (line ∷ lines) = and_then_lines line (lines_until lines)

-- The text that tells what some bytes are read as.
abbrev pub text_of : Reading → List ℕ → List ℕ
text_of k bytes = lines_until (k.lines bytes)

-- The fault of an item that no line tells, with its number, or that of what stands behind it.
abbrev pub or_untold : ℕ → Result (List ℕ) TellCause → Option DecodeFault → Option DecodeFault
or_untold number (Err cause) later = Some (record { frame = number; cause = Untold cause })
or_untold number (Ok line) later = later

-- The first of some items that no line tells, where they are counted from this number; else the fault behind them all.
abbrev pub untold_from : List (Result (List ℕ) TellCause) → (ℕ → Option DecodeFault) → ℕ → Option DecodeFault
untold_from [] behind number = behind number
untold_from (line ∷ lines) behind number = or_untold number line (untold_from lines behind (number + 1))

-- The fault of what stands at a place, which would be that of an item of this number.
abbrev pub front_fault : ℕ → ℕ → Front → Option DecodeFault
front_fault number at Short = Some (record { frame = number; cause = Unfinished at })
front_fault number at (Whole line len) = None
front_fault number at (Faulty cause) = Some (record { frame = number; cause = cause })

-- The fault of a tail at a place; an empty one has none.
abbrev pub tail_fault : Reading → List ℕ → ℕ → ℕ → Option DecodeFault
tail_fault k [] at number = None
tail_fault k (b ∷ tail) at number = front_fault number at (k.front at (b ∷ tail))

-- The fault behind all that some bytes are read as. Its place is that of the first byte of the item that is none, or is cut off.
abbrev pub fault_behind : Reading → List ℕ → ℕ → Option DecodeFault
fault_behind k bytes number = tail_fault k (k.tail bytes) (length bytes - length (k.tail bytes)) number

-- The fault that ends the text early, if there is one. Things are counted from 1.
abbrev pub fault_of : Reading → List ℕ → Option DecodeFault
fault_of k bytes = untold_from (k.lines bytes) (fault_behind k bytes) 1

-- ---- of frames

-- What stands at the front of bytes that begin at a place, with the line of a frame.
abbrev pub line_at : ℕ → read.Front → Front
line_at at stands.Short = Short
line_at at (stands.Bad fault) = Faulty (Bad fault at)
line_at at (stands.Whole f len) = Whole (line_for f) len

-- The lines of some frames in order, each with its newline, up to one that no line tells.
abbrev pub lines_for : List Frame → List ℕ
lines_for frames = lines_until (map line_for frames)

-- Bytes read as frames.
abbrev pub framed : Reading
framed = record { front = λ at bytes. line_at at (front bytes); lines = λ bytes. map line_for (frames_of bytes); tail = rest_of }

-- The text that tells the frames of some bytes.
abbrev pub text_told : List ℕ → List ℕ
text_told = text_of framed

-- The fault that ends it early, if there is one.
abbrev pub fault_told : List ℕ → Option DecodeFault
fault_told = fault_of framed
