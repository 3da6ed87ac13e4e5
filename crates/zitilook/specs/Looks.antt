-- What a run said, and what it did to a folder that it looked at.
use Rattle.std.specs.Prelude.{◌≡◌, ◌⊎◌, ℕ, Bool, IsTrue, List, [], ◌∷◌, Ok, Err}
use Rattle.std.specs.declared.option.Option.{Option}
use Rattle.std.specs.declared.result.Result.{Result}
use Rattle.ziti_outside.specs.declared.desk.Part.{Part}
use Rattle.ziti_outside.specs.Told.{Took, TookFront}
use Rattle.ziti_outside.specs.Causes.{Rose}
use Rattle.ziti_outside.specs.Images.{Image}
use Rattle.ziti_outside.specs.Moments.{Elapses}
use Rattle.ziti_outside.specs.Views.{Seen, Stopped}
use Rattle.ctrl_model.specs.State.{State}
use Rattle.ctrl_model.specs.ValidState.{ValidState}
use Rattle.row_store.specs.OpenedStates.{IsStateless, OpensToState}
use Rattle.run_notes.specs.NotedLines.{NotesLines}
use Rattle.zitilook.specs.declared.status.Status.{Status}
use Rattle.zitilook.specs.declared.status.Status.TheVariants.{Done, Unknown, WriteFault, DiskFault, Damaged, NoMemory}
use Rattle.zitilook.specs.Notes.{damaged_note, notes_of}

-- What a run that ended so has said of a text: all of it; a front of it where the say failed; and nothing where memory was wanting. The
-- other statuses never come.
abbrev pub Says : Status → List ℕ → Option (List ℕ) → Option (List ℕ) → Type 0
Says Done text before now = Took before now text
Says WriteFault text before now = TookFront before now text
Says NoMemory text before now = now ≡ before
Says _ text before now = ⊥

-- A run that says a text.
pub record SaysText (text : List ℕ) (before now : Seen) (status : Status) : Type 0 where
  pub says : Says status text before.said now.said
  pub notes : NotesLines (notes_of status) before now

-- Why a folder was not opened, at a status, and what was noted: a call on the disk failed; it opens to no state, and the place of the
-- damage is told; or memory was wanting. The other statuses never come.
abbrev pub IsClosed : (tells : Bool) → (before now : Seen) → Status → Type 0
IsClosed tells before now DiskFault = NotesLines (notes_of DiskFault) before now
IsClosed tells before now Damaged = (part : Part) × (at : ℕ) × (IsTrue tells → IsStateless before.reads part at) × NotesLines (damaged_note part at) before now
IsClosed tells before now NoMemory = NotesLines (notes_of NoMemory) before now
IsClosed tells before now _ = ⊥

-- A run whose folder was not opened: nothing was said.
pub record FindsNone (tells : Bool) (before now : Seen) (status : Status) : Type 0 where
  pub says_nothing : now.said ≡ before.said
  pub why : IsClosed tells before now status

-- A run that was asked for with a word that names nothing: that is noted, unless memory was wanting.
pub record Refuses (note : List ℕ) (before now : Seen) (status : Status) : Type 0 where
  pub says_nothing : now.said ≡ before.said
  pub why : ((status ≡ Unknown) × NotesLines note before now) ⊎ ((status ≡ NoMemory) × NotesLines (notes_of NoMemory) before now)

-- What is told of a text that may be empty: the text, or a note where it is.
abbrev pub found : (note text : List ℕ) → Result (List ℕ) (List ℕ)
found note [] = Err note
found note (b ∷ bs) = Ok (b ∷ bs)

-- A run that tells so: it says a text, or notes that a word names nothing.
abbrev pub Tells : Result (List ℕ) (List ℕ) → (before now : Seen) → Status → Type 0
Tells (Ok text) before now status = SaysText text before now status
Tells (Err note) before now status = Refuses note before now status

-- A run that tells of the state to which the folder opens.
pub record Looks (told : State → Result (List ℕ) (List ℕ)) (tells : Bool) (before now : Seen) (status : Status) : Type 0 where
  pub state : State
  pub valid : ValidState state
  pub opens : IsTrue tells → OpensToState before.reads state
  pub says : Tells (told state) before now status

-- A fault comes exactly where its count rose.
pub record HasCauses (before now : Seen) (status : Status) : Type 0 where
  pub write_fault : status ≡ WriteFault → Rose before.say_faults now.say_faults
  pub failed_say : (status ≡ WriteFault → ⊥) → now.say_faults ≡ before.say_faults
  pub disk_fault : status ≡ DiskFault → Rose before.disk_faults now.disk_faults
  pub failed_disk : (status ≡ DiskFault → ⊥) → now.disk_faults ≡ before.disk_faults

-- The folder was left alone: every part reads as before, and a stop leaves no image that it did not leave before, at any moment and at
-- the end.
pub record IsLeftAlone {D : Type 0} (seen : D → Seen) (stopped : D → Stopped) (desk desk_now : D) : Type 0 where
  pub parts : (seen desk_now).reads ≡ (seen desk).reads
  pub found : (image : Image) → (stopped desk_now).images image → (stopped desk).images image
  pub stops : Elapses (stopped desk) (stopped desk_now) (λ image taken. (stopped desk).images image)
