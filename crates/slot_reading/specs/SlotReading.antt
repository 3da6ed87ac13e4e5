-- The rows that the bytes of a slot give, where they break off if they are none that gives rows, and what each step of reading finds and does
-- (docs/FORMATS.md, "Damage").
use Rattle.std.specs.Prelude.{◌≡◌, ◌⊎◌, ℕ, ◌+◌, ◌-◌, ◌^◌, min, Bool, true, false, IsTrue, List, length, ⊤, None, Some}
use Rattle.std.specs.declared.option.Option.{Option}
use Rattle.ctrl_model.specs.declared.formats.Format.{Format}
use Rattle.journal_core.specs.Slots.{IsClosed, IsRecord, IsDamaged, Slot, SlotFront, slot_end}
use Rattle.row_codec.specs.declared.changes.Op.{Op}
use Rattle.row_codec.specs.RowDifference.{IsTrueDifference}
use Rattle.row_codec.specs.Batches.{bytes_cmp, entries_of, Spells}
use Rattle.journal_core.specs.declared.faults.JournalFault.{JournalFault}
use Rattle.journal_core.specs.declared.faults.JournalFault.TheVariants.{Disk, Full, Damaged, NoMemory}
use Rattle.slot_reading.specs.BatchRows.{ByteRows, Leads, MayLead, Give, rows_after}

-- ---- how far a slot gives rows

-- The bytes of a slot of a format were read up to the gate at this place: the records before it give these rows.
pub record IsReadTo (format : Format) (bytes : List ℕ) (at : ℕ) (rows : ByteRows) : Type 0 where
  pub payloads : List (List ℕ)
  pub front : SlotFront format bytes payloads
  pub give : Give format payloads rows
  pub place : at ≡ slot_end payloads

-- A whole record stands at this place, and its payload leads from the rows nowhere that a batch at this place of a slot of the format may.
pub record IsUntrue (format : Format) (at : ℕ) (bytes : List ℕ) (rows : ByteRows) : Type 0 where
  pub payload : List ℕ
  pub stands : IsRecord at payload bytes
  pub nowhere : (next : ByteRows) → Leads rows payload next → MayLead format at rows next → ⊥

-- The bytes of a slot of a format break off at this place: the records before it give rows, and there stands no gate, or no whole record
-- behind an open one, or a record that leads from these rows nowhere, or past a serial.
pub record BreaksOff (format : Format) (bytes : List ℕ) (at : ℕ) : Type 0 where
  pub rows : ByteRows
  pub read : IsReadTo format bytes at rows
  pub broken : IsDamaged at bytes ⊎ IsUntrue format at bytes rows

-- ---- what each step of a reading does

-- Operations were made where they are a true difference, and only there.
abbrev pub Makes : ByteRows → List Op → ByteRows → Bool → Type 0
Makes rows ops next true = IsTrueDifference bytes_cmp rows (entries_of ops) × (next ≡ rows_after rows ops)
Makes rows ops next false = IsTrueDifference bytes_cmp rows (entries_of ops) → ⊥

-- Operations were made where they are a true difference by which a batch at this place of a slot of the format may lead on, and only there.
abbrev pub MakesAt : Format → (at : ℕ) → ByteRows → List Op → ByteRows → Bool → Type 0
MakesAt format at rows ops next true = IsTrueDifference bytes_cmp rows (entries_of ops) × (next ≡ rows_after rows ops) × MayLead format at rows next
MakesAt format at rows ops next false = IsTrueDifference bytes_cmp rows (entries_of ops) → MayLead format at rows (rows_after rows ops) → ⊥

-- A payload was added where a batch at this place of a slot of the format may lead on from the rows by it, and only there.
abbrev pub Adds : Format → (at : ℕ) → ByteRows → List ℕ → ByteRows → Bool → Type 0
Adds format at rows payload next true = Leads rows payload next × MayLead format at rows next
Adds format at rows payload next false = (other : ByteRows) → Leads rows payload other → MayLead format at rows other → ⊥

-- A record stands at a place and leads on from the rows, and this is the place behind it, as far as 64 bits go.
pub record Steps (format : Format) (bytes : List ℕ) (at : ℕ) (rows next : ByteRows) (place : ℕ) : Type 0 where
  pub payload : List ℕ
  pub stands : IsRecord at payload bytes
  pub leads : Leads rows payload next
  pub may : MayLead format at rows next
  pub behind : place ≡ min (at + 5 + length payload) (2 ^ 64 - 1)

-- What one step made of the rows: nothing at a closed gate, and else those to which the record there leads.
abbrev pub StepsTo : Format → List ℕ → (at : ℕ) → (rows next : ByteRows) → Option ℕ → Type 0
StepsTo format bytes at rows next None = IsClosed at bytes × (next ≡ rows)
StepsTo format bytes at rows next (Some place) = Steps format bytes at rows next place

-- Why a step was not made: the disk failed, the slot breaks off at this place, or there is no memory.
abbrev pub StepFails : (tells : Bool) → Format → (at : ℕ) → List ℕ → ByteRows → JournalFault → Type 0
StepFails tells format at bytes rows Disk = ⊤
StepFails tells format at bytes rows Full = ⊥
StepFails tells format at bytes rows (Damaged place) = (place ≡ at) × (IsTrue tells → IsDamaged at bytes ⊎ IsUntrue format at bytes rows)
StepFails tells format at bytes rows NoMemory = ⊤

-- The bytes are a slot of a format that was read up to its closed gate, which is at this place, and its records give these rows.
pub record IsReadWhole (format : Format) (bytes : List ℕ) (at : ℕ) (rows : ByteRows) : Type 0 where
  pub payloads : List (List ℕ)
  pub slot : Slot format bytes payloads
  pub give : Give format payloads rows
  pub place : at ≡ slot_end payloads

-- Why a slot was not read: the disk failed, it breaks off at the place that is told, or there is no memory.
abbrev pub SlotFails : (tells : Bool) → Format → List ℕ → JournalFault → Type 0
SlotFails tells format bytes Disk = ⊤
SlotFails tells format bytes Full = ⊥
SlotFails tells format bytes (Damaged place) = IsTrue tells → BreaksOff format bytes place
SlotFails tells format bytes NoMemory = ⊤

-- What stands behind a gate: nothing where it is closed, and else a record, the operations that it spells, and the place behind it, as far as
-- 64 bits go.
abbrev pub Behind : List ℕ → (at : ℕ) → Option (List Op × ℕ) → Type 0
Behind bytes at None = IsClosed at bytes
Behind bytes at (Some found) = (payload : List ℕ) × IsRecord at payload bytes × Spells payload found.0 × (found.1 ≡ min (at + 5 + length payload) (2 ^ 64 - 1))

-- Why a payload behind the gate at a place gave no batch: it spells none, or there is no memory.
abbrev pub SpellFails : (at : ℕ) → List ℕ → JournalFault → Type 0
SpellFails at payload Disk = ⊥
SpellFails at payload Full = ⊥
SpellFails at payload (Damaged place) = (place ≡ at) × ((ops : List Op) → Spells payload ops → ⊥)
SpellFails at payload NoMemory = ⊤

-- Why nothing was read behind a gate: the disk failed, no record stands there or one that spells no batch, or there is no memory.
abbrev pub BehindFails : (tells : Bool) → (at : ℕ) → List ℕ → JournalFault → Type 0
BehindFails tells at bytes Disk = ⊤
BehindFails tells at bytes Full = ⊥
BehindFails tells at bytes (Damaged place) =
    (place ≡ at) × (IsTrue tells → IsDamaged at bytes ⊎ ((payload : List ℕ) × IsRecord at payload bytes × ((ops : List Op) → Spells payload ops → ⊥)))
BehindFails tells at bytes NoMemory = ⊤
