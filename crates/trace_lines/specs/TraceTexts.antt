-- Faults in words (docs/FORMATS.md, "Lines of traces").
use Rattle.std.specs.Prelude.{ℕ, List, ◌++◌, codes, decimal}
use Rattle.frame_lines.specs.FaultTexts.{line_words}
use Rattle.trace_lines.specs.declared.said.TraceCause.{TraceCause}
use Rattle.trace_lines.specs.declared.said.TraceCause.TheVariants.{BadSession, BadRole, NoFrame, OpenedBefore, NotOpen}
use Rattle.trace_lines.specs.declared.said.TraceFault.{TraceFault}

-- Why a line of a trace is at fault.
abbrev pub trace_words : TraceCause → List ℕ
trace_words BadSession = codes "bad session"
trace_words BadRole = codes "bad role"
trace_words (NoFrame cause) = line_words cause
trace_words OpenedBefore = codes "session opened before"
trace_words NotOpen = codes "session not open"

-- The fault of a text: the line, and why.
abbrev pub trace_text : TraceFault → List ℕ
trace_text f = codes "line " ++ (decimal f.line ++ (codes ": " ++ trace_words f.cause))
