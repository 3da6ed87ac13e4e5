-- What a folder of the first format makes of a run on it (docs/PROMISES.md, "The headline").
use Rattle.std.specs.Prelude.{◌≡◌, Bool, IsTrue, None, Some}
use Rattle.std.specs.declared.option.Option.{Option}
use Rattle.ziti_outside.specs.Images.{Image}
use Rattle.ctrl_model.specs.State.{State}
use Rattle.row_store.specs.declared.bounds.StoreBounds.{StoreBounds}
use Rattle.row_store.specs.OpenedStates.{OpensToState}
use Rattle.ctrl_keep.specs.MigratedFolders.{OpensInFirst, Migrates, LacksSlot, LacksMark}
use Rattle.run_notes.specs.declared.ends.Full.{Full}
use Rattle.run_notes.specs.declared.ends.Full.TheVariants as full
use Rattle.run_notes.specs.declared.status.Status.{Status}
use Rattle.run_notes.specs.declared.status.Status.TheVariants.{DiskFault}

-- The part that has no room for the migration of a folder: the other slot, or, where that has room, the mark.
abbrev pub LacksRoom : Full → StoreBounds → Image → Type 0
LacksRoom full.Journal bounds image = LacksSlot bounds image
LacksRoom full.Mark bounds image = LacksMark bounds image

-- A folder of the first format, if it is one that opens to a state, has room to be migrated.
abbrev pub HasRoomToOpen : StoreBounds → Image → Type 0
HasRoomToOpen bounds image = (s : State) → OpensInFirst image s → Migrates bounds image s

-- That a part has no room is told of a folder which a run would migrate within bounds. A run that reads a folder alone migrates none.
abbrev pub IsToldFull : (within : Option StoreBounds) → (tells : Bool) → Full → Image → Type 0
IsToldFull None tells full image = ⊥
IsToldFull (Some bounds) tells full image = IsTrue tells → LacksRoom full bounds image

-- A folder is migrated within bounds, by a run that does so.
abbrev pub MigratesWithin : (within : Option StoreBounds) → Image → State → Type 0
MigratesWithin None image s = ⊥
MigratesWithin (Some bounds) image s = Migrates bounds image s

-- A failed call on the disk cut the migration of a folder of this state short, or the opening before it.
abbrev pub CutsMigration : (within : Option StoreBounds) → Status → Image → State → Type 0
CutsMigration within status image s = (status ≡ DiskFault) × MigratesWithin within image s

-- An image that a migration may leave which was cut short so: it opens to the state to which the folder opened.
abbrev pub LeftByMigration : (within : Option StoreBounds) → Status → (before image : Image) → Type 0
LeftByMigration within status before image = (s : State) × CutsMigration within status before s × OpensToState image s
