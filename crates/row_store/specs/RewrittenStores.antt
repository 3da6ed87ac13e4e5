-- What writing the rows of a store anew does: they stand in the other slot, and the slot that stood is cut. So a store is compacted,
-- migrated to the second format, or given other rows (docs/FORMATS.md, "Compacting").
use Rattle.std.specs.Prelude.{◌≡◌, ℕ, ◌+◌, ◌<◌, ◌≤◌, true, false, List, [], ◌∷◌, ◌++◌, drop}
use Rattle.ziti_outside.specs.declared.desk.Part.TheVariants.{Mark}
use Rattle.ziti_outside.specs.Images.{Image}
use Rattle.ctrl_model.specs.declared.formats.Format.{Format}
use Rattle.journal_core.specs.Slots.{slot_bytes, slot_end}
use Rattle.slot_files.specs.FolderImage.{Stands}
use Rattle.slot_files.specs.SwitchedSlots.{other_slot}
use Rattle.row_codec.specs.Batches.{batch_bytes}
use Rattle.row_store.specs.declared.faults.StoreFault.{StoreFault}
use Rattle.row_store.specs.declared.faults.StoreFault.TheVariants.{Disk, Full, Damaged, MarkFull, Spent, NoMemory}
use Rattle.slot_reading.specs.BatchRows.{ByteRows, puts}
use Rattle.row_store.specs.StoredRows.{Stored, spent_of}
use Rattle.row_store.specs.Faults.{NothingDone}

-- The batches of a slot in which rows stand compacted: one that puts all rows, or none where there are no rows.
abbrev pub compacted : ByteRows → List (List ℕ)
compacted [] = []
compacted (row ∷ rows) = batch_bytes (puts (row ∷ rows)) ∷ []

-- The bytes that such a slot has: as many as stand before its closed gate, and the gate.
abbrev pub compacted_size : ByteRows → ℕ
compacted_size rows = slot_end (compacted rows) + 1

-- The store after rows of a format were written: they stand compacted in the other slot, which ends behind that one batch, and the mark has
-- a byte more.
abbrev pub rewritten_of : Format → ByteRows → Stored → Stored
rewritten_of format rows stored = record stored {
  format = format;
  rows = rows;
  part = other_slot stored.mark;
  end = slot_end (compacted rows);
  mark = stored.mark + 1;
}

-- The folder after rows of a format were written: the other slot begins with the bytes of the rows compacted, behind which older bytes of it
-- stay; the mark has a byte more; the slot that stood is empty; and the folder stands for the one batch, or for none.
pub record IsRewritten (format : Format) (rows : ByteRows) (stored : Stored) (old new : Image) : Type 0 where
  pub other : new (other_slot stored.mark) ≡ slot_bytes format (compacted rows) ++ drop (compacted_size rows) (old (other_slot stored.mark))
  pub mark : new Mark ≡ old Mark ++ 0 ∷ []
  pub cut : new stored.part ≡ []
  pub stands : Stands format new (compacted rows)

-- A slot of so many bytes keeps the store's bound, and the mark has room for a byte.
abbrev pub HasRoom : (size : ℕ) → Stored → Type 0
HasRoom size stored = (size ≤ stored.bounds.slot) × (stored.mark < stored.bounds.mark)

-- The store is not spent, and it has room.
abbrev pub MayRewrite : (size : ℕ) → Stored → Type 0
MayRewrite size stored = (stored.spent ≡ false) × HasRoom size stored

-- Why a slot of so many bytes was not written, and what then is as it was. Spent comes exactly where the store is spent. Full comes
-- exactly where it is not and the slot would pass its bound. That the mark is full comes exactly where that slot keeps its bound and the
-- mark has as many bytes as it may have. Nothing was done on any of these, nor for want of memory. Disk leaves the rows and spends the
-- store. Nothing else is told.
abbrev pub RewriteFails : {D : Type 0} → (size : ℕ) → (old new : Stored) (desk later : D) → StoreFault → Type 0
RewriteFails size old new desk later Disk = MayRewrite size old × (new ≡ spent_of old)
RewriteFails size old new desk later Full = (old.spent ≡ false) × (old.bounds.slot < size) × NothingDone old new desk later
RewriteFails size old new desk later (Damaged part at) = ⊥
RewriteFails size old new desk later MarkFull = (old.spent ≡ false) × (size ≤ old.bounds.slot) × (old.bounds.mark ≤ old.mark) × NothingDone old new desk later
RewriteFails size old new desk later Spent = (old.spent ≡ true) × NothingDone old new desk later
RewriteFails size old new desk later NoMemory = MayRewrite size old × NothingDone old new desk later

-- Why a slot of so many bytes is not made: it would pass its bound, or it would not and the mark has as many bytes as it may have, or there
-- is room and no memory.
abbrev pub RoomFails : (size mark : ℕ) (slot_bound mark_bound : ℕ) → StoreFault → Type 0
RoomFails size mark slot_bound mark_bound Disk = ⊥
RoomFails size mark slot_bound mark_bound Full = slot_bound < size
RoomFails size mark slot_bound mark_bound (Damaged part at) = ⊥
RoomFails size mark slot_bound mark_bound MarkFull = (size ≤ slot_bound) × (mark_bound ≤ mark)
RoomFails size mark slot_bound mark_bound Spent = ⊥
RoomFails size mark slot_bound mark_bound NoMemory = (size ≤ slot_bound) × (mark < mark_bound)
