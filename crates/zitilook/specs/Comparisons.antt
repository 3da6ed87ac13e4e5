-- What a run said of two folders, of which it read one beside the other (docs/FORMATS.md, "The words of zitilook").
use Rattle.std.specs.Prelude.{◌≡◌, ◌⊎◌, ℕ, Bool, IsTrue, List, []}
use Rattle.std.specs.declared.option.Option.{Option}
use Rattle.ziti_outside.specs.declared.desk.Part.{Part}
use Rattle.ziti_outside.specs.Told.{Took, TookFront}
use Rattle.ziti_outside.specs.Causes.{Rose}
use Rattle.ziti_outside.specs.Untouched.{OnlyDisk}
use Rattle.ziti_outside.specs.Views.{Seen, Stopped}
use Rattle.ctrl_model.specs.State.{State}
use Rattle.ctrl_model.specs.ValidState.{ValidState}
use Rattle.row_store.specs.OpenedStates.{IsStateless, OpensToState}
use Rattle.run_notes.specs.NotedLines.{NotesLines}
use Rattle.change_lines.specs.ChangeLines.{change_lines}
use Rattle.zitilook.specs.declared.status.Status.{Status}
use Rattle.zitilook.specs.declared.status.Status.TheVariants.{Done, Differs, WriteFault, DiskFault, Damaged, NoMemory}
use Rattle.zitilook.specs.Looks.{FindsNone, IsLeftAlone}
use Rattle.zitilook.specs.Notes.{notes_of, other_damaged_note, other_fault_note}

-- What a run that ended so has said of some changes: nothing where there are none; all lines where there are some, or a front of them where
-- the say failed; and nothing where memory was wanting. The other statuses never come.
abbrev pub SaysLines : Status → List ℕ → Option (List ℕ) → Option (List ℕ) → Type 0
SaysLines Done lines before now = (lines ≡ []) × (now ≡ before)
SaysLines Differs lines before now = (lines ≡ [] → ⊥) × Took before now lines
SaysLines WriteFault lines before now = (lines ≡ [] → ⊥) × TookFront before now lines
SaysLines NoMemory lines before now = now ≡ before
SaysLines _ lines before now = ⊥

-- A run that says some changes.
pub record SaysChanges (lines : List ℕ) (before now : Seen) (status : Status) : Type 0 where
  pub says : SaysLines status lines before.said now.said
  pub notes : NotesLines (notes_of status) before now

-- Why the other folder was not opened, at a status, and what was noted.
abbrev pub IsOtherClosed : (tells_other : Bool) → (other before now : Seen) → Status → Type 0
IsOtherClosed tells_other other before now DiskFault = NotesLines other_fault_note before now
IsOtherClosed tells_other other before now Damaged =
    (part : Part) × (at : ℕ) × (IsTrue tells_other → IsStateless other.reads part at) × NotesLines (other_damaged_note part at) before now
IsOtherClosed tells_other other before now NoMemory = NotesLines (notes_of NoMemory) before now
IsOtherClosed tells_other other before now _ = ⊥

-- A run whose other folder was not opened: nothing was said.
pub record FindsNoOther (tells_other : Bool) (other before now : Seen) (status : Status) : Type 0 where
  pub says_nothing : now.said ≡ before.said
  pub why : IsOtherClosed tells_other other before now status

-- A run that says what changes from a state to the one to which the other folder opens.
pub record ComparesTo (state : State) (tells_other : Bool) (other before now : Seen) (status : Status) : Type 0 where
  pub other_state : State
  pub valid : ValidState other_state
  pub opens : IsTrue tells_other → OpensToState other.reads other_state
  pub says : SaysChanges (change_lines state other_state) before now status

-- A run whose own folder was opened.
pub record ComparesOpened (tells tells_other : Bool) (other before now : Seen) (status : Status) : Type 0 where
  pub state : State
  pub valid : ValidState state
  pub opens : IsTrue tells → OpensToState before.reads state
  pub compares : FindsNoOther tells_other other before now status ⊎ ComparesTo state tells_other other before now status

-- A fault comes exactly where its count rose, on the disk that of either folder.
pub record HasEitherCause (other other_now before now : Seen) (status : Status) : Type 0 where
  pub write_fault : status ≡ WriteFault → Rose before.say_faults now.say_faults
  pub failed_say : (status ≡ WriteFault → ⊥) → now.say_faults ≡ before.say_faults
  pub disk_fault : status ≡ DiskFault → Rose before.disk_faults now.disk_faults ⊎ Rose other.disk_faults other_now.disk_faults
  pub failed_disk : (status ≡ DiskFault → ⊥) → (now.disk_faults ≡ before.disk_faults) × (other_now.disk_faults ≡ other.disk_faults)

-- How a run over two folders ended: each fault with its cause, and both folders left alone; of the other desk the folder alone was read.
pub record EndsBeside {D E : Type 0} (seen : D → Seen) (stopped : D → Stopped) (seen_other : E → Seen) (stopped_other : E → Stopped)
    (other other_now : E) (desk desk_now : D) (status : Status) : Type 0 where
  pub causes : HasEitherCause (seen_other other) (seen_other other_now) (seen desk) (seen desk_now) status
  pub folder : IsLeftAlone seen stopped desk desk_now
  pub other_folder : IsLeftAlone seen_other stopped_other other other_now
  pub other_silent : OnlyDisk seen_other other other_now

-- A run that compares two folders: the one of its desk, and the one of the other desk.
pub record Compares {D E : Type 0} (tells : Bool) (seen : D → Seen) (stopped : D → Stopped) (tells_other : Bool) (seen_other : E → Seen) (stopped_other : E → Stopped)
    (other other_now : E) (desk desk_now : D) (status : Status) : Type 0 where
  pub finds : FindsNone tells (seen desk) (seen desk_now) status
      ⊎ ComparesOpened tells tells_other (seen_other other) (seen desk) (seen desk_now) status
  pub ends : EndsBeside seen stopped seen_other stopped_other other other_now desk desk_now status
