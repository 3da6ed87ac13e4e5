-- What is in a folder behind a run, in plain words (docs/PROMISES.md, "What the top call promises").
use Rattle.std.specs.Prelude.{◌≡◌, ℕ, ◌<◌, List, [], length}
use Rattle.ziti_outside.specs.declared.desk.Part.TheVariants.{Mark}
use Rattle.ziti_outside.specs.Images.{Image}
use Rattle.slot_files.specs.FolderImage.{slot_of, Stands}
use Rattle.slot_files.specs.SwitchedSlots.{other_slot}
use Rattle.row_store.specs.declared.bounds.StoreBounds.{StoreBounds}
use Rattle.row_store.specs.RewrittenStores.{compacted}
use Rattle.row_store.specs.OpenedStates.{byte_rows_of, OpensToState}
use Rattle.ctrl_keep.specs.MigratedFolders.{OpensInFirst}
use Rattle.ctrl_model.specs.State.{State}
use Rattle.model_laws.specs.JudgedCircuits.{AreGranted}
use Rattle.ctrl_keep.specs.KeptMachine.{Machine}
use Rattle.session_mux.specs.declared.sessions.Form.{Form}
use Rattle.ctrl_serve.specs.FrameAnswer.{last_machine}
use Rattle.ctrl_serve.specs.OpenedFolders.{Keeps, OpensTo}
use Rattle.ctrl_serve.specs.RunStops.{AllOpenTo}
use Rattle.ctrl_core.specs.KeptFormat.{kept_format}

-- A folder that opened to a state keeps the machine behind all frames of an input: that of the machine to which it opened, which had that
-- state. So it opens to the machine's state, and so does all that a stop may leave.
pub record KeepsAllFrames (form : Form) (bounds : StoreBounds) (bytes : List ℕ) (s : State) (before now : Image) (images : Image → Type 0) : Type 0 where
  pub machine : Machine
  pub opens : OpensTo before machine
  pub from : machine.state ≡ s
  pub keeps : Keeps now (last_machine form bounds machine bytes)
  pub holds : OpensToState now (last_machine form bounds machine bytes).state
  pub found : AllOpenTo images (last_machine form bounds machine bytes).state

-- A folder opens to a state in which what granted each circuit stands.
abbrev pub HoldsGranted : Image → Type 0
HoldsGranted image = (s : State) × OpensToState image s × AreGranted s

-- A folder was compacted. It opens to the state to which it opened, and holds nothing but the rows of that state: it stands for the one
-- batch that puts them all, or for none where there are no rows, and the other slot is empty. Unless the mark was empty, or the folder was one of
-- the first format and was migrated first, the slot that stands is the one that did not stand before.
pub record HoldsAlone (s : State) (before now : Image) (images : Image → Type 0) : Type 0 where
  pub opens : OpensToState now s
  pub found : AllOpenTo images s
  pub rows : Stands kept_format now (compacted (byte_rows_of kept_format s))
  pub cut : now (other_slot (length (now Mark))) ≡ []
  pub turned : 0 < length (before Mark) → (OpensInFirst before s → ⊥) → slot_of (length (now Mark)) ≡ other_slot (length (before Mark))
