-- What the worked examples of notes ask.
use Rattle.std.specs.Prelude.{ℕ, List, [], ◌∷◌, ◌++◌}
use Rattle.channel_frame.specs.WorkedFrames.{ann_bytes, unmarked_bytes}
use Rattle.session_mux.specs.declared.sessions.Form.TheVariants.{Plain, Trace}
use Rattle.run_notes.specs.declared.status.Status.{Status}
use Rattle.run_notes.specs.declared.status.Status.TheVariants.{Done, Usage, BadInput, Truncated, ReadFault, WriteFault, DiskFault, Damaged, NoMemory, InputTooLong, FolderFull}
use Rattle.run_notes.specs.Inputs.{events_in}
use Rattle.run_notes.specs.Notes.{notes_of}

-- The notes of a run at a status that answered all of plain input.
abbrev pub plain_notes : List ℕ → Status → List ℕ
plain_notes used status = notes_of Plain (events_in Plain used) used status

-- And of one that answered all of a trace.
abbrev pub trace_notes : List ℕ → Status → List ℕ
trace_notes used status = notes_of Trace (events_in Trace used) used status

-- Two whole frames, and bytes behind them that do not begin as a frame does.
abbrev pub two_and_faulty : List ℕ
two_and_faulty = ann_bytes ++ (ann_bytes ++ unmarked_bytes)

-- The eleven statuses, in the order of their numbers.
abbrev pub all_statuses : List Status
all_statuses = Done ∷ Usage ∷ BadInput ∷ Truncated ∷ ReadFault ∷ WriteFault ∷ DiskFault ∷ Damaged ∷ NoMemory ∷ InputTooLong ∷ FolderFull ∷ []
