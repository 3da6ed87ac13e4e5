-- How a folder follows the machine of a run: along events, and along an input. Only private contracts cite these.
use Rattle.std.specs.Prelude.{◌≡◌, ◌⊎◌, ℕ, List, length}
use Rattle.ziti_outside.specs.declared.desk.Part.TheVariants.{Mark}
use Rattle.ziti_outside.specs.Images.{Image, Else}
use Rattle.slot_files.specs.FolderImage.{slot_of, Stands}
use Rattle.row_store.specs.declared.bounds.StoreBounds.{StoreBounds}
use Rattle.ctrl_keep.specs.KeptMachine.{Machine}
use Rattle.ctrl_keep.specs.KeptBatches.{GoesOnBehind}
use Rattle.session_mux.specs.declared.events.Event.{Event}
use Rattle.session_mux.specs.declared.sessions.Form.{Form}
use Rattle.run_notes.specs.KnownSessions.{Known}
use Rattle.ctrl_serve.specs.FrameAnswer.{last_machine, last_batches}
use Rattle.ctrl_serve.specs.KnownReplies.{machine_along, batches_along}
use Rattle.ctrl_serve.specs.UncompactedFolders.{CompactsNothing}
use Rattle.ctrl_core.specs.KeptFormat.{kept_format}

-- Along some events: the machine is as it was, and then every part reads as before, or its journal goes on behind; for whatever batches the
-- folder stood, it stands for those behind the events; and where none of them compacted it, the other slot and the mark read as before.
pub record FollowsEvents (bounds : StoreBounds) (events : List Event) (known : Known) (m : Machine) (before now : Image) : Type 0 where
  pub on : (machine_along bounds events known m ≡ m) ⊎ GoesOnBehind m (machine_along bounds events known m)
  pub still : machine_along bounds events known m ≡ m → now ≡ before
  pub stands : (batches : List (List ℕ)) → Stands kept_format before batches → Stands kept_format now (batches_along bounds events known m batches)
  pub elsewhere : CompactsNothing m (machine_along bounds events known m) → Else (slot_of (length (before Mark))) before now

-- Along all frames of an input.
pub record FollowsInput (form : Form) (bounds : StoreBounds) (m : Machine) (before now : Image) (used : List ℕ) : Type 0 where
  pub still : last_machine form bounds m used ≡ m → now ≡ before
  pub stands : (batches : List (List ℕ)) → Stands kept_format before batches → Stands kept_format now (last_batches form bounds m used batches)
  pub elsewhere : CompactsNothing m (last_machine form bounds m used) → Else (slot_of (length (before Mark))) before now
