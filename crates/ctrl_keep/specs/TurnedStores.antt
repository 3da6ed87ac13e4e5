-- What becomes of a store whose folder is opened. Only private contracts cite these.
use Rattle.std.specs.Prelude.{◌≡◌, ◌⊎◌, ⊤, ◌<◌, ◌≤◌, Bool, IsTrue, map}
use Rattle.std.specs.declared.result.Result.{Result}
use Rattle.ziti_outside.specs.Views.{Seen}
use Rattle.ctrl_model.specs.declared.formats.Format.TheVariants.{One}
use Rattle.ctrl_model.specs.State.{State}
use Rattle.ctrl_model.specs.ValidState.{ValidState}
use Rattle.row_codec.specs.NarrowedRows.{narrowed}
use Rattle.row_codec.specs.StateRows.{HasRows}
use Rattle.slot_reading.specs.BatchRows.{ByteRows}
use Rattle.row_store.specs.StoredRows.{Stored}
use Rattle.row_store.specs.OpenedStates.{byte_rows_of, IsOfNoState}
use Rattle.row_store.specs.RewrittenStores.{compacted_size, rewritten_of, IsRewritten, HasRoom}
use Rattle.ctrl_core.specs.KeptFormat.{kept_format}
use Rattle.ctrl_keep.specs.declared.faults.KeepFault.{KeepFault}
use Rattle.ctrl_keep.specs.declared.faults.KeepFault.TheVariants.{Disk, Full, MarkFull, Damaged, Spent, NoMemory}
use Rattle.ctrl_keep.specs.MigratedFolders.{MayMigrate}

-- A store has, in its format, the rows of a valid state.
pub record HasState (stored : Stored) (s : State) : Type 0 where
  pub valid : ValidState s
  pub has : HasRows stored.format s
  pub rows : stored.rows ≡ byte_rows_of stored.format s

-- The rows of a store with narrowed counts.
abbrev pub narrow_rows : Stored → ByteRows
narrow_rows stored = map narrowed stored.rows

-- A store of the first format has room to be migrated.
pub record HasRoomToTurn (stored : Stored) : Type 0 where
  pub first : stored.format ≡ One
  pub room : HasRoom (compacted_size (narrow_rows stored)) stored

-- A store of the kept format is left, with its folder.
pub record IsLeft {D : Type 0} (old new : Stored) (desk later : D) : Type 0 where
  pub format : old.format ≡ kept_format
  pub store : new ≡ old
  pub quiet : later ≡ desk

-- One of the first format has narrowed rows in the kept one, and so has its folder.
pub record IsTurned {D : Type 0} (tells : Bool) (seen : D → Seen) (old new : Stored) (desk later : D) : Type 0 where
  pub had : HasRoomToTurn old
  pub store : new ≡ rewritten_of kept_format (narrow_rows old) old
  pub folder : IsTrue tells → IsRewritten kept_format (narrow_rows old) old (seen desk).reads (seen later).reads

-- Nothing was done to the folder, or its store had room to be migrated, and the call may have begun to.
abbrev pub IsQuietOrTurns : {D T : Type 0} → Stored → Result T KeepFault → (desk later : D) → Type 0
IsQuietOrTurns stored result desk later = (later ≡ desk) ⊎ (MayMigrate result × HasRoomToTurn stored)

-- Why a store is not of the kept format: it is of the first one, and the other slot would pass its bound, or the mark has as many bytes as it
-- may have; or the disk failed, or there is no memory.
abbrev pub TurnFails : Stored → KeepFault → Type 0
TurnFails stored Disk = ⊤
TurnFails stored Full = (stored.format ≡ One) × (stored.bounds.slot < compacted_size (narrow_rows stored))
TurnFails stored MarkFull = (stored.format ≡ One) × (compacted_size (narrow_rows stored) ≤ stored.bounds.slot) × (stored.bounds.mark ≤ stored.mark)
TurnFails stored (Damaged part at) = ⊥
TurnFails stored Spent = ⊥
TurnFails stored NoMemory = ⊤

-- Why the rows of a store gave no core: they are those of no valid state, which is told at the store's end, or there is no memory.
abbrev pub LookFails : Stored → KeepFault → Type 0
LookFails stored Disk = ⊥
LookFails stored Full = ⊥
LookFails stored MarkFull = ⊥
LookFails stored (Damaged part at) = IsOfNoState stored part at
LookFails stored Spent = ⊥
LookFails stored NoMemory = ⊤

-- Why a store gave no controller: its rows gave no core; or they are those of a state, and the store is not of the kept format.
abbrev pub LoadFails : Stored → KeepFault → Type 0
LoadFails stored fault = LookFails stored fault ⊎ ((s : State) × HasState stored s × TurnFails stored fault)
