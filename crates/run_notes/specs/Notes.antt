-- The notes of a run, a line each (docs/FORMATS.md, "Notes").
use Rattle.std.specs.Prelude.{ℕ, zero, suc, ◌==◌, if◌then◌else◌, List, [], ◌++◌, length, codes, decimal}
use Rattle.std.specs.List.{flat_map}
use Rattle.ziti_outside.specs.declared.desk.Part.{Part}
use Rattle.ziti_outside.specs.declared.desk.Part.TheVariants.{Zero, One, Mark}
use Rattle.session_mux.specs.declared.events.Event.{Event}
use Rattle.session_mux.specs.declared.events.Event.TheVariants as event
use Rattle.session_mux.specs.declared.sessions.Form.{Form}
use Rattle.session_mux.specs.Completion.{Standing, begins_bad}
use Rattle.run_notes.specs.declared.ends.Full.{Full}
use Rattle.run_notes.specs.declared.ends.Full.TheVariants as full
use Rattle.run_notes.specs.declared.status.Status.{Status}
use Rattle.run_notes.specs.declared.status.Status.TheVariants.{Done, Usage, BadInput, Truncated, ReadFault, WriteFault, DiskFault, Damaged, NoMemory, InputTooLong, FolderFull}
use Rattle.run_notes.specs.Inputs.{end_in, closed_rests, rest_at, all_sessions}

-- A note: what it tells behind the program's name, and a newline.
abbrev pub note_of : List ℕ → List ℕ
note_of told = codes "zitictl: " ++ (told ++ codes "\n")

-- The word of a frame's fault, by the number that its event has.
abbrev pub fault_word : ℕ → List ℕ
fault_word fault =
    if fault == 1 then codes "BadMarker" else (if fault == 2 then codes "TooLong" else (if fault == 3 then codes "BadHeaders" else []))

-- The note of a session, by its number.
abbrev pub session_note : ℕ → List ℕ → List ℕ
session_note session told = note_of (codes "session " ++ (decimal session ++ (codes ": " ++ told)))

-- The note of a trace.
abbrev pub trace_note : List ℕ → List ℕ
trace_note told = note_of (codes "trace: " ++ told)

-- The lines of an event: one where it is a session's fault, with its place in the session.
abbrev pub event_lines : Event → List ℕ
event_lines (event.Opened s who) = []
event_lines (event.Arrived s frame) = []
event_lines (event.Ended s fault at) = session_note s (fault_word fault ++ (codes " at " ++ decimal at))
event_lines (event.Closed s rest) = []

-- The lines of the faults among some events, in the order in which they are found.
abbrev pub fault_lines : List Event → List ℕ
fault_lines events = flat_map event_lines events

-- The lines of a bad record, with its place in the input: one where the input goes no further than one.
abbrev pub bad_lines : Standing → List ℕ
bad_lines st = if begins_bad st then trace_note (codes "BadRecord at " ++ decimal st.before) else []

-- The lines of what is left of a session's last frame: one where some bytes are left.
abbrev pub session_rest_lines : ℕ → ℕ → List ℕ
session_rest_lines s zero = []
session_rest_lines s (suc left) = session_note s (decimal (suc left) ++ codes " bytes left")

-- The lines of what is left of a trace's last record.
abbrev pub trace_rest_lines : ℕ → List ℕ
trace_rest_lines zero = []
trace_rest_lines (suc left) = trace_note (decimal (suc left) ++ codes " bytes left")

-- The lines of all that is left at the end: of each session with a rest, by ascending numbers, and then of the trace.
abbrev pub rest_lines : Standing → List ℕ → List ℕ
rest_lines st closed = flat_map (λ s. session_rest_lines s (rest_at st closed s)) all_sessions ++ trace_rest_lines (length st.input)

-- The usage note.
abbrev pub usage_note : List ℕ
usage_note = note_of (codes "usage: zitictl dry | replay [--sessions] | audit | compact | load N | advise I S | ship N | follow")

-- The number by which a note names a part of the folder: the slots by theirs. The mark is named by none.
abbrev pub file_number : Part → ℕ
file_number Zero = 0
file_number One = 1
file_number Mark = 2

-- The note of a folder that opens to no state: the slot and the place at which it is damaged.
abbrev pub damaged_note : Part → ℕ → List ℕ
damaged_note part at = note_of (codes "damaged: file " ++ (decimal (file_number part) ++ (codes " at " ++ decimal at)))

-- The note of a folder without room for a compaction: whether the journal is full, or the mark.
abbrev pub full_note : Full → List ℕ
full_note full.Journal = note_of (codes "journal full")
full_note full.Mark = note_of (codes "mark full")

-- The lines of a status, given those of what is left of the sessions. That of a damaged folder tells its place besides, and that of a
-- full one what is full.
abbrev pub status_lines : List ℕ → Status → List ℕ
status_lines rests Done = []
status_lines rests Usage = usage_note
status_lines rests BadInput = []
status_lines rests Truncated = rests
status_lines rests ReadFault = note_of (codes "read fault")
status_lines rests WriteFault = note_of (codes "write fault")
status_lines rests DiskFault = note_of (codes "disk fault")
status_lines rests Damaged = []
status_lines rests NoMemory = note_of (codes "no memory")
status_lines rests InputTooLong = note_of (codes "input too long")
status_lines rests FolderFull = []

-- The lines of a bad record that a run had found when it ended: one that was cut short at a reply, by the disk or for want of memory
-- had found none.
abbrev pub found_lines : List ℕ → Status → List ℕ
found_lines bad WriteFault = []
found_lines bad DiskFault = []
found_lines bad NoMemory = []
found_lines bad _ = bad

-- The lines of how a run ended at a status: the bad record that was found, and then the lines of the status.
abbrev pub ending_lines : Standing → List ℕ → Status → List ℕ
ending_lines st closed status = found_lines (bad_lines st) status ++ status_lines (rest_lines st closed) status

-- The notes of a run over an input in which these events were answered: the faults among them, and then how the run ended.
abbrev pub notes_of : Form → List Event → List ℕ → Status → List ℕ
notes_of form answered used status = fault_lines answered ++ ending_lines (end_in form used) (closed_rests form used) status
