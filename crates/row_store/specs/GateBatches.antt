-- The batch behind a gate of the slot that stands, as it is read again (docs/FORMATS.md, "Batches").
use Rattle.std.specs.Prelude.{◌≡◌, ℕ, ◌+◌, ◌<◌, Bool, IsTrue, ⊤, List, ◌++◌, length, None, Some}
use Rattle.std.specs.declared.option.Option.{Option}
use Rattle.ziti_outside.specs.Images.{Image}
use Rattle.journal_core.specs.Slots.{IsRecord, slot_end}
use Rattle.slot_files.specs.FolderImage.{Stands}
use Rattle.row_codec.specs.declared.changes.Op.{Op}
use Rattle.row_codec.specs.Batches.{Spells}
use Rattle.row_store.specs.declared.faults.StoreFault.{StoreFault}
use Rattle.row_store.specs.declared.faults.StoreFault.TheVariants.{Disk, Full, Damaged, MarkFull, Spent, NoMemory}
use Rattle.row_store.specs.StoredRows.{Stored, IsStoreOf}

-- A place is that of a gate of the slot that stands in the folder of a store: its mark is not empty, and behind some of the batches for which
-- the folder stands the next one begins there, or none.
pub record IsGateOf (stored : Stored) (reads : Image) (at : ℕ) : Type 0 where
  pub some : 0 < stored.mark
  pub kept : IsStoreOf reads stored
  pub before : List (List ℕ)
  pub after : List (List ℕ)
  pub stands : Stands stored.format reads (before ++ after)
  pub place : at ≡ slot_end before

-- A record stands at a place of a slot, these operations are what it spells, and this is the place of the gate behind it.
pub record IsBatchAt (bytes : List ℕ) (at : ℕ) (ops : List Op) (next : ℕ) : Type 0 where
  pub payload : List ℕ
  pub stands : IsRecord at payload bytes
  pub spells : Spells payload ops
  pub behind : next ≡ at + 5 + length payload

-- What a gate has behind it: nothing exactly where it is the closed one, else a batch.
abbrev pub GateHas : Stored → Image → (at : ℕ) → Option (List Op × ℕ) → Type 0
GateHas stored reads at None = at ≡ stored.end
GateHas stored reads at (Some found) = IsBatchAt (reads stored.part) at found.0 found.1

-- Why no batch was read: the disk failed, or there is no memory for it. Where the folder is told nothing else is.
abbrev pub GateFails : (tells : Bool) → StoreFault → Type 0
GateFails tells Disk = ⊤
GateFails tells Full = ⊥
GateFails tells (Damaged part at) = IsTrue tells → ⊥
GateFails tells MarkFull = ⊥
GateFails tells Spent = ⊥
GateFails tells NoMemory = ⊤
