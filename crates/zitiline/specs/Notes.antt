-- The notes of a run, a line each (docs/FORMATS.md, "The words of zitiline").
use Rattle.std.specs.Prelude.{ℕ, List, [], ◌++◌, codes, None, Some}
use Rattle.std.specs.declared.option.Option.{Option}
use Rattle.ziti_outside.specs.Causes.{Rose}
use Rattle.ziti_outside.specs.Told.{Took, TookFront}
use Rattle.ziti_outside.specs.Views.{Seen}
use Rattle.zitiline.specs.declared.status.Status.{Status}
use Rattle.zitiline.specs.declared.status.Status.TheVariants.{Done, Refused, Usage, BadInput, ReadFault, WriteFault, NoMemory}

-- A note: what it tells behind the program's name, and a newline.
abbrev pub note_of : List ℕ → List ℕ
note_of told = codes "zitiline: " ++ (told ++ codes "\n")

-- The note of a fault, if there is one.
abbrev pub fault_note : Option (List ℕ) → List ℕ
fault_note None = []
fault_note (Some text) = note_of text

-- The notes of a run that ended so, whose input has this fault or none.
abbrev pub notes_of : Option (List ℕ) → Status → List ℕ
notes_of fault Done = []
notes_of fault Refused = []
notes_of fault Usage = note_of (codes "usage: zitiline encode | decode | trace | replies | check | answers | help | version")
notes_of fault BadInput = fault_note fault
notes_of fault ReadFault = note_of (codes "read fault")
notes_of fault WriteFault = note_of (codes "write fault")
notes_of fault NoMemory = note_of (codes "no memory")

-- These lines were noted: all of them where the count of failed notes did not rise, else a front of them.
pub record NotesLines (lines : List ℕ) (before now : Seen) : Type 0 where
  pub part : TookFront before.noted now.noted lines
  pub whole : (Rose before.note_faults now.note_faults → ⊥) → Took before.noted now.noted lines
