-- What the parts of a run do, up to the headline. Only private contracts cite these.
use Rattle.std.specs.Prelude.{◌≡◌}
use Rattle.ziti_outside.specs.Views.{Seen, Stopped}
use Rattle.ctrl_keep.specs.declared.faults.KeepFault.{KeepFault}
use Rattle.ctrl_keep.specs.declared.faults.KeepFault.TheVariants as keep
use Rattle.run_notes.specs.NotedLines.{NotesLines}
use Rattle.zitilook.specs.declared.status.Status.{Status}
use Rattle.zitilook.specs.declared.status.Status.TheVariants.{DiskFault, Damaged, NoMemory}
use Rattle.zitilook.specs.Looks.{HasCauses, IsLeftAlone}
use Rattle.zitilook.specs.Notes.{damaged_note, notes_of, other_damaged_note, other_fault_note}

-- How a part of a run ended: each fault with its cause, and the folder left alone.
pub record EndsSo {D : Type 0} (seen : D → Seen) (stopped : D → Stopped) (old new : D) (status : Status) : Type 0 where
  pub causes : HasCauses (seen old) (seen new) status
  pub folder : IsLeftAlone seen stopped old new

-- What was told of a folder that was not opened, by the fault of its opening.
abbrev pub TellsClosed : KeepFault → (status : Status) → (before now : Seen) → Type 0
TellsClosed keep.Disk status before now = (status ≡ DiskFault) × NotesLines (notes_of DiskFault) before now
TellsClosed (keep.Damaged part at) status before now = (status ≡ Damaged) × NotesLines (damaged_note part at) before now
TellsClosed keep.NoMemory status before now = (status ≡ NoMemory) × NotesLines (notes_of NoMemory) before now
TellsClosed _ status before now = ⊥

-- What was told of the other folder, where that was not opened, by the fault of its opening.
abbrev pub TellsOther : KeepFault → (status : Status) → (before now : Seen) → Type 0
TellsOther keep.Disk status before now = (status ≡ DiskFault) × NotesLines other_fault_note before now
TellsOther (keep.Damaged part at) status before now = (status ≡ Damaged) × NotesLines (other_damaged_note part at) before now
TellsOther keep.NoMemory status before now = (status ≡ NoMemory) × NotesLines (notes_of NoMemory) before now
TellsOther _ status before now = ⊥
