-- What the word `ship` says of a folder (docs/PROMISES.md, "The headline").
use Rattle.std.specs.Prelude.{◌≡◌, ℕ, Bool, IsTrue, List, [], ◌++◌}
use Rattle.std.specs.declared.option.Option.{Option}
use Rattle.ziti_outside.specs.declared.desk.Part.{Part}
use Rattle.ziti_outside.specs.Told.{Took, TookFront}
use Rattle.ziti_outside.specs.Views.{Seen}
use Rattle.channel_frame.specs.declared.frames.Frame.{Frame}
use Rattle.ctrl_model.specs.declared.formats.Format.{Format}
use Rattle.ctrl_model.specs.State.{State}
use Rattle.ctrl_model.specs.ValidState.{ValidState}
use Rattle.row_codec.specs.StateRows.{HasRows}
use Rattle.slot_files.specs.FolderImage.{Stands}
use Rattle.row_store.specs.OpenedStates.{byte_rows_of, OpensToState}
use Rattle.ship_frames.specs.Pieces.{written}
use Rattle.ship_core.specs.Shipping.{shipped, AreShippedOf}
use Rattle.run_notes.specs.declared.status.Status.{Status}
use Rattle.run_notes.specs.declared.status.Status.TheVariants.{Done, WriteFault, DiskFault, Damaged, NoMemory}
use Rattle.run_notes.specs.Notes.{damaged_note, status_lines}
use Rattle.run_notes.specs.NotedLines.{NotesLines}

-- A desk took the first of some frames, each whole.
abbrev pub TookFirst : (before now : Option (List ℕ)) → List Frame → Type 0
TookFirst before now all = (frames more : List Frame) × (frames ++ more ≡ all) × Took before now (written frames)

-- What a run that ships frames has said at a status: all of them; where a say failed a front of their bytes; and where it was cut short by
-- something else the first of them, each whole. The other statuses never come.
abbrev pub SaysShipped : Status → (before now : Option (List ℕ)) → List Frame → Type 0
SaysShipped Done before now all = Took before now (written all)
SaysShipped WriteFault before now all = TookFront before now (written all)
SaysShipped DiskFault before now all = TookFirst before now all
SaysShipped Damaged before now all = TookFirst before now all
SaysShipped NoMemory before now all = TookFirst before now all
SaysShipped _ before now all = ⊥

-- What such a run has noted at a status: the line of the status. Damage comes here of a folder that is not told alone, and its place is noted.
abbrev pub NotesShipped : Status → (tells : Bool) → (before now : Seen) → Type 0
NotesShipped Damaged tells before now = (part : Part) × (at : ℕ) × (IsTrue tells → ⊥) × NotesLines (damaged_note part at) before now
NotesShipped status tells before now = NotesLines (status_lines [] status) before now

-- What a run that ships from a serial on has said at a status of a folder that was found to have the rows of a state in a format, whether the
-- folder is told or not: frames that are shipped of one with these rows. In the second format they are those of some batches, each spelled.
pub record SaysOf (from : ℕ) (state : State) (status : Status) (before now : Option (List ℕ)) : Type 0 where
  pub format : Format
  pub has : HasRows format state
  pub all : List Frame
  pub shipped : AreShippedOf from format (byte_rows_of format state) all
  pub said : SaysShipped status before now all

-- A run of `ship N` on a folder that opens to a state, which is valid: it says what is shipped from N on of the batches for which the folder
-- stands. Of a folder that is not told, too, a valid state was found there, and then the frames of batches are said.
pub record Ships (from : ℕ) (tells : Bool) (before now : Seen) (status : Status) : Type 0 where
  pub state : State
  pub valid : ValidState state
  pub opens : IsTrue tells → OpensToState before.reads state
  pub ships : IsTrue tells → (format : Format) (batches : List (List ℕ)) → Stands format before.reads batches → SaysShipped status before.said now.said (shipped from format batches)
  pub frames : SaysOf from state status before.said now.said
  pub notes : NotesShipped status tells before now
