-- The machine to which a folder opens, and the one that a folder keeps (docs/PROMISES.md, "The headline").
use Rattle.std.specs.Prelude.{◌≡◌, ◌⊎◌, ℕ, zero, suc, ◌+◌, List, [], length, Some}
use Rattle.ziti_outside.specs.declared.desk.Part.TheVariants.{Mark}
use Rattle.ziti_outside.specs.Images.{Image}
use Rattle.ctrl_model.specs.State.{start}
use Rattle.ctrl_model.specs.ValidState.{ValidState}
use Rattle.journal_core.specs.Slots.{slot_end}
use Rattle.slot_files.specs.FolderImage.{Stands}
use Rattle.slot_reading.specs.BatchRows.{Give}
use Rattle.row_store.specs.OpenedStates.{byte_rows_of}
use Rattle.row_store.specs.RewrittenStores.{compacted}
use Rattle.ctrl_keep.specs.KeptMachine.{Machine}
use Rattle.ctrl_keep.specs.MigratedFolders.{OpensInFirst}
use Rattle.ctrl_core.specs.KeptFormat.{kept_format}

-- A folder keeps a machine: in the kept format it stands for batches that give exactly the rows of the machine's state, which is valid, and
-- the machine's place is that of the closed gate behind these batches and of the mark's end.
pub record Keeps (image : Image) (m : Machine) : Type 0 where
  pub valid : ValidState m.state
  pub batches : List (List ℕ)
  pub stands : Stands kept_format image batches
  pub give : Give kept_format batches (byte_rows_of kept_format m.state)
  pub place : m.place ≡ Some (record { end = slot_end batches; mark = length (image Mark) })

-- A folder of the first format is migrated to a machine: it opens to the machine's state in this format, and the machine's place is that behind the
-- one batch of all rows in the kept one, or at the first gate where there are no rows, with a mark of one byte more.
pub record IsMigratedTo (image : Image) (m : Machine) : Type 0 where
  pub first : OpensInFirst image m.state
  pub place : m.place ≡ Some (record { end = slot_end (compacted (byte_rows_of kept_format m.state)); mark = length (image Mark) + 1 })

-- A folder opens to a machine, by the length of its mark: to the one at the start, whose slot and mark are created, where the mark is
-- empty; else to the one that it keeps, or to which it is migrated.
abbrev pub OpensBy : (mark : ℕ) → Image → Machine → Type 0
OpensBy zero image m = m ≡ record { state = start; place = Some (record { end = slot_end []; mark = 1 }) }
OpensBy (suc turn) image m = Keeps image m ⊎ IsMigratedTo image m

-- A folder opens to a machine.
abbrev pub OpensTo : Image → Machine → Type 0
OpensTo image m = OpensBy (length (image Mark)) image m

-- For which batches a folder stands in the kept format once it was opened to a machine: for those for which it stands, and where it is migrated for
-- the one batch of all rows, or for none where there are no rows.
abbrev pub StandsOpened : Image → Machine → List (List ℕ) → Type 0
StandsOpened image m batches = Stands kept_format image batches ⊎ (IsMigratedTo image m × (batches ≡ compacted (byte_rows_of kept_format m.state)))
