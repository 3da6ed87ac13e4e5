-- What a store has, and when the folder reads as it stands (docs/PROMISES.md, "The map of rows").
use Rattle.std.specs.Prelude.{◌≡◌, ℕ, ◌+◌, ◌<◌, Bool, true, false, List, [], length}
use Rattle.ziti_outside.specs.declared.desk.Part.{Part}
use Rattle.ziti_outside.specs.declared.desk.Part.TheVariants.{Zero, Mark}
use Rattle.ziti_outside.specs.Images.{Image, IsStable}
use Rattle.ctrl_model.specs.declared.formats.Format.{Format}
use Rattle.journal_core.specs.Slots.{slot_end}
use Rattle.slot_files.specs.FolderImage.{slot_of, Stands}
use Rattle.row_codec.specs.declared.changes.Op.{Op}
use Rattle.row_codec.specs.Batches.{batch_bytes}
use Rattle.row_store.specs.declared.bounds.StoreBounds.{StoreBounds}
use Rattle.slot_reading.specs.BatchRows.{ByteRows, Give, rows_after}

-- A store: its format, its rows, the slot that stands, the place of that slot's closed gate, the mark's length, the bounds, whether it was
-- opened to be changed, and whether it is spent.
pub record Stored : Type 0 where
  pub format : Format
  pub rows : ByteRows
  pub part : Part
  pub end : ℕ
  pub mark : ℕ
  pub bounds : StoreBounds
  pub opened : Bool
  pub spent : Bool

-- A store is that of a folder: the mark has the kept length and names the kept slot, and the folder stands for batches of the kept format
-- that give the kept rows and end at the kept gate. With an empty mark that is any format, no rows, the first slot, and the place of its first
-- gate.
pub record IsStoreOf (image : Image) (stored : Stored) : Type 0 where
  pub mark : length (image Mark) ≡ stored.mark
  pub part : stored.part ≡ slot_of stored.mark
  pub batches : List (List ℕ)
  pub stands : Stands stored.format image batches
  pub give : Give stored.format batches stored.rows
  pub end : stored.end ≡ slot_end batches

-- The folder reads as the store stands: the mark is not empty, the store is that of the folder, and nothing is pending in the mark
-- and the slot that stands.
pub record ReadsAs (stored : Stored) (reads : Image) (images : Image → Type 0) : Type 0 where
  pub some : 0 < stored.mark
  pub kept : IsStoreOf reads stored
  pub stable_mark : IsStable Mark reads images
  pub stable_slot : IsStable stored.part reads images

-- The bytes that the slot has with one batch of operations more.
abbrev pub size_with : Stored → List Op → ℕ
size_with stored ops = stored.end + 6 + length (batch_bytes ops)

-- The store after a batch of operations was kept.
abbrev pub with_ops : Stored → List Op → Stored
with_ops stored ops = record stored { rows = rows_after stored.rows ops; end = stored.end + 5 + length (batch_bytes ops) }

-- The store spent.
abbrev pub spent_of : Stored → Stored
spent_of stored = record stored { spent = true }

-- The store spent, with these rows.
abbrev pub spent_with : Stored → ByteRows → Stored
spent_with stored rows = record stored { rows = rows; spent = true }

-- The store of a folder whose mark is empty, as one of a format is seen without creating anything.
abbrev pub without_rows : Format → Stored
without_rows format = record {
  format = format;
  rows = [];
  part = Zero;
  end = slot_end [];
  mark = 0;
  bounds = record { slot = 0; mark = 0 };
  opened = false;
  spent = false;
}
