-- The notes of a run, a line each (docs/FORMATS.md, "The words of zitilook").
use Rattle.std.specs.Prelude.{ℕ, List, [], ◌++◌, codes, decimal}
use Rattle.ziti_outside.specs.declared.desk.Part.{Part}
use Rattle.frame_lines.specs.declared.lines.LineFault.{LineFault}
use Rattle.frame_lines.specs.FaultTexts.{line_text}
use Rattle.run_notes.specs.Notes.{file_number}
use Rattle.zitilook.specs.declared.status.Status.{Status}
use Rattle.zitilook.specs.declared.status.Status.TheVariants.{Done, Usage, Found, Unknown, Differs, Refused, ReadFault, WriteFault, DiskFault, Damaged, NoMemory}

-- A note: what it tells behind the program's name, and a newline.
abbrev pub note_of : List ℕ → List ℕ
note_of told = codes "zitilook: " ++ (told ++ codes "\n")

-- The note of a status that tells nothing else.
abbrev pub notes_of : Status → List ℕ
notes_of Done = []
notes_of Usage = note_of (codes "usage: zitilook list KIND | show KIND NAME | why IDENTITY SERVICE | who SERVICE | dump | picture [CIRCUIT] | doctor | diff OTHER | plan | help | version")
notes_of Found = note_of (codes "something is wrong with the folder")
notes_of Unknown = []
notes_of Differs = []
notes_of Refused = []
notes_of ReadFault = note_of (codes "read fault")
notes_of WriteFault = note_of (codes "write fault")
notes_of DiskFault = note_of (codes "disk fault")
notes_of Damaged = []
notes_of NoMemory = note_of (codes "no memory")

-- The note of a word that names no kind.
abbrev pub unknown_note : List ℕ → List ℕ
unknown_note word = codes "zitilook: unknown kind: " ++ (word ++ codes "\n")

-- The note of a name that none of what is listed has.
abbrev pub absent_note : List ℕ → List ℕ
absent_note name = codes "zitilook: no record: " ++ (name ++ codes "\n")

-- The note of a word that is to name a record and is no name.
abbrev pub misnamed_note : List ℕ → List ℕ
misnamed_note word = codes "zitilook: no name: " ++ (word ++ codes "\n")

-- The note of a line of the input that says no frame.
abbrev pub line_note : LineFault → List ℕ
line_note fault = note_of (line_text fault)

-- The note of a folder that opens to no state: the slot and the place at which it is damaged.
abbrev pub damaged_note : Part → ℕ → List ℕ
damaged_note part at = note_of (codes "damaged: file " ++ (decimal (file_number part) ++ (codes " at " ++ decimal at)))

-- The note of another folder on which a call failed.
abbrev pub other_fault_note : List ℕ
other_fault_note = note_of (codes "other folder: disk fault")

-- The note of another folder that opens to no state.
abbrev pub other_damaged_note : Part → ℕ → List ℕ
other_damaged_note part at = note_of (codes "other folder: damaged: file " ++ (decimal (file_number part) ++ (codes " at " ++ decimal at)))
