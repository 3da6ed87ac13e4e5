-- Faults in words (docs/FORMATS.md, "Lines for people").
use Rattle.std.specs.Prelude.{ℕ, List, [], ◌++◌, codes, decimal}
use Rattle.channel_frame.specs.declared.frames.FrameFault.{FrameFault}
use Rattle.channel_frame.specs.declared.frames.FrameFault.TheVariants as fault
use Rattle.frame_lines.specs.declared.lines.LineCause.{LineCause}
use Rattle.frame_lines.specs.declared.lines.LineCause.TheVariants as line
use Rattle.frame_lines.specs.declared.lines.LineFault.{LineFault}
use Rattle.frame_lines.specs.declared.told.TellCause.{TellCause}
use Rattle.frame_lines.specs.declared.told.TellCause.TheVariants as tell
use Rattle.frame_lines.specs.declared.told.DecodeCause.{DecodeCause}
use Rattle.frame_lines.specs.declared.told.DecodeCause.TheVariants.{Untold, Bad, Unfinished, NoTag}
use Rattle.frame_lines.specs.declared.told.DecodeFault.{DecodeFault}

-- Why a line says no frame.
abbrev pub line_words : LineCause → List ℕ
line_words line.BadSequence = codes "bad sequence"
line_words line.UnknownType = codes "unknown type"
line_words line.TooLong = codes "body too long"

-- The fault of a text: the line, and why it says no frame.
abbrev pub line_text : LineFault → List ℕ
line_text f = codes "line " ++ (decimal f.line ++ (codes ": " ++ line_words f.cause))

-- Why no line tells a frame.
abbrev pub tell_words : TellCause → List ℕ
tell_words tell.Headers = codes "headers that no line tells"
tell_words tell.Newline = codes "newline in the body"
tell_words tell.Return = codes "carriage return at the end of the body"
tell_words tell.NotText = codes "body that is no text"

-- Why bytes are no frame. No bytes are in want of memory.
abbrev pub fault_word : FrameFault → List ℕ
fault_word fault.BadMarker = codes "BadMarker"
fault_word fault.TooLong = codes "TooLong"
fault_word fault.BadHeaders = codes "BadHeaders"
fault_word fault.NoMemory = []

-- Why the telling of frames ended early.
abbrev pub decode_words : DecodeCause → List ℕ
decode_words (Untold cause) = tell_words cause
decode_words (Bad f at) = fault_word f ++ (codes " at " ++ decimal at)
decode_words (Unfinished at) = codes "unfinished at " ++ decimal at
decode_words (NoTag at) = codes "no tag at " ++ decimal at

-- The fault of frames: the frame, and why the telling ended there.
abbrev pub frame_text : DecodeFault → List ℕ
frame_text f = codes "frame " ++ (decimal f.frame ++ (codes ": " ++ decode_words f.cause))
