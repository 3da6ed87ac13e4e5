-- A folder of the first format, which opening migrates to the kept one (docs/FORMATS.md, "Migrating").
use Rattle.std.specs.Prelude.{◌≡◌, ⊤, ℕ, ◌<◌, ◌≤◌, [], ◌∷◌, ◌++◌, length, drop, Ok, Err}
use Rattle.std.specs.declared.result.Result.{Result}
use Rattle.ziti_outside.specs.declared.desk.Part.TheVariants.{Mark}
use Rattle.ziti_outside.specs.Images.{Image}
use Rattle.ctrl_model.specs.declared.formats.Format.TheVariants.{One}
use Rattle.ctrl_model.specs.State.{State}
use Rattle.ctrl_model.specs.ValidState.{ValidState}
use Rattle.journal_core.specs.Slots.{slot_bytes}
use Rattle.slot_files.specs.FolderImage.{slot_of, Stands}
use Rattle.slot_files.specs.SwitchedSlots.{other_slot}
use Rattle.row_codec.specs.StateRows.{HasRows}
use Rattle.row_store.specs.declared.bounds.StoreBounds.{StoreBounds}
use Rattle.row_store.specs.OpenedRows.{OpensTo}
use Rattle.row_store.specs.OpenedStates.{byte_rows_of}
use Rattle.row_store.specs.RewrittenStores.{compacted, compacted_size}
use Rattle.ctrl_core.specs.KeptFormat.{kept_format}
use Rattle.ctrl_keep.specs.declared.faults.KeepFault.{KeepFault}
use Rattle.ctrl_keep.specs.declared.faults.KeepFault.TheVariants.{Disk, Full, MarkFull, Damaged, Spent, NoMemory}

-- A folder opens to a state in the first format: its mark is not empty, the state is valid and has rows in this format, and the folder opens
-- to exactly these.
pub record OpensInFirst (image : Image) (s : State) : Type 0 where
  pub some : 0 < length (image Mark)
  pub valid : ValidState s
  pub has : HasRows One s
  pub rows : OpensTo One image (byte_rows_of One s)

-- How many bytes the other slot takes for the rows of a state in the kept format.
abbrev pub migrated_size : State → ℕ
migrated_size s = compacted_size (byte_rows_of kept_format s)

-- A folder of the first format, of this state, is migrated within bounds: the other slot keeps its bound, and the mark has room for a byte.
pub record Migrates (bounds : StoreBounds) (image : Image) (s : State) : Type 0 where
  pub opens : OpensInFirst image s
  pub slot : migrated_size s ≤ bounds.slot
  pub mark : length (image Mark) < bounds.mark

-- A folder of the first format is not migrated since the other slot would pass its bound.
pub record LacksSlot (bounds : StoreBounds) (image : Image) : Type 0 where
  pub state : State
  pub opens : OpensInFirst image state
  pub slot : bounds.slot < migrated_size state

-- It is not migrated since its mark has as many bytes as it may have, though the other slot would keep its bound.
pub record LacksMark (bounds : StoreBounds) (image : Image) : Type 0 where
  pub state : State
  pub opens : OpensInFirst image state
  pub slot : migrated_size state ≤ bounds.slot
  pub mark : bounds.mark ≤ length (image Mark)

-- The folder behind a migration: the other slot begins with the bytes of the state's rows compacted in the kept format, behind which older bytes
-- of it stay; the mark has a byte more; the slot that stood is empty; and the folder stands for the one batch of these rows, or for none where
-- there are none.
pub record IsMigrated (s : State) (old new : Image) : Type 0 where
  pub other : new (other_slot (length (old Mark)))
      ≡ slot_bytes kept_format (compacted (byte_rows_of kept_format s)) ++ drop (migrated_size s) (old (other_slot (length (old Mark))))
  pub mark : new Mark ≡ old Mark ++ 0 ∷ []
  pub cut : new (slot_of (length (old Mark))) ≡ []
  pub stands : Stands kept_format new (compacted (byte_rows_of kept_format s))

-- A call that opens a folder may have begun to migrate it: it succeeded, or the disk failed. What else comes of it comes before that.
abbrev pub MayMigrate : {T : Type 0} → Result T KeepFault → Type 0
MayMigrate (Ok x) = ⊤
MayMigrate (Err Disk) = ⊤
MayMigrate (Err Full) = ⊥
MayMigrate (Err MarkFull) = ⊥
MayMigrate (Err (Damaged part at)) = ⊥
MayMigrate (Err Spent) = ⊥
MayMigrate (Err NoMemory) = ⊥

-- It may have, and the folder was one of the first format, of this state, which is migrated within the bounds.
abbrev pub MigratesBy : {T : Type 0} → Result T KeepFault → StoreBounds → Image → State → Type 0
MigratesBy result bounds image s = MayMigrate result × Migrates bounds image s
