-- When the calls on a store fail (docs/PROMISES.md, "The map of rows").
use Rattle.std.specs.Prelude.{◌≡◌, ◌⊎◌, ℕ, ◌<◌, ◌≤◌, Bool, true, false, IsTrue, List, ⊤, Ok, Err}
use Rattle.std.specs.declared.result.Result.{Result}
use Rattle.ziti_outside.specs.declared.desk.Part.{Part}
use Rattle.ziti_outside.specs.Images.{Image}
use Rattle.ctrl_model.specs.declared.formats.Format.{Format}
use Rattle.journal_core.specs.declared.faults.JournalFault.{JournalFault}
use Rattle.journal_core.specs.declared.faults.JournalFault.TheVariants as journal
use Rattle.row_codec.specs.declared.changes.Op.{Op}
use Rattle.row_store.specs.declared.faults.StoreFault.{StoreFault}
use Rattle.row_store.specs.declared.faults.StoreFault.TheVariants.{Disk, Full, Damaged, MarkFull, Spent, NoMemory}
use Rattle.slot_reading.specs.BatchRows.{ByteRows}
use Rattle.slot_reading.specs.SlotReading.{BreaksOff}
use Rattle.row_store.specs.OpenedRows.{IsDamagedAt}
use Rattle.row_store.specs.StoredRows.{Stored, size_with, spent_of, spent_with}

-- The failure of a call on the disk, if that is how a call ended.
abbrev pub disk_failure : {T : Type 0} → Result T StoreFault → Result ⊤ StoreFault
disk_failure (Ok x) = Ok tt
disk_failure (Err Disk) = Err Disk
disk_failure (Err Full) = Ok tt
disk_failure (Err (Damaged part at)) = Ok tt
disk_failure (Err MarkFull) = Ok tt
disk_failure (Err Spent) = Ok tt
disk_failure (Err NoMemory) = Ok tt

-- Why a folder was not opened: the disk failed, it is damaged at the place that is told, or there is no memory for its rows.
-- Nothing else is told.
abbrev pub OpenFails : (tells : Bool) → Image → StoreFault → Type 0
OpenFails tells image Disk = ⊤
OpenFails tells image Full = ⊥
OpenFails tells image (Damaged part at) = IsTrue tells → IsDamagedAt image part at
OpenFails tells image MarkFull = ⊥
OpenFails tells image Spent = ⊥
OpenFails tells image NoMemory = ⊤

-- The store was not spent, and the batch keeps the slot's bound.
abbrev pub MayCommit : Stored → List Op → Type 0
MayCommit stored ops = (stored.spent ≡ false) × (size_with stored ops ≤ stored.bounds.slot)

-- Nothing was done, to the store and to the desk.
abbrev pub NothingDone : {D : Type 0} → (old new : Stored) (desk later : D) → Type 0
NothingDone old new desk later = (new ≡ old) × (later ≡ desk)

-- Why a batch was not kept, and what then is as it was. Spent comes exactly where the store is spent, and Full exactly where it is
-- not and the slot would pass its bound; nothing was done on either. Disk leaves the rows and spends the store. Want of memory
-- leaves all as it was, or spends the store and leaves all but the rows. Nothing else is told.
abbrev pub CommitFails : {D : Type 0} → List Op → (old new : Stored) (desk later : D) → StoreFault → Type 0
CommitFails ops old new desk later Disk = MayCommit old ops × (new ≡ spent_of old)
CommitFails ops old new desk later Full = (old.spent ≡ false) × (old.bounds.slot < size_with old ops) × NothingDone old new desk later
CommitFails ops old new desk later (Damaged part at) = ⊥
CommitFails ops old new desk later MarkFull = ⊥
CommitFails ops old new desk later Spent = (old.spent ≡ true) × NothingDone old new desk later
CommitFails ops old new desk later NoMemory = MayCommit old ops × (NothingDone old new desk later ⊎ (new ≡ spent_with old new.rows))

-- Why a batch for which there is room was not kept: the disk failed, and the rows are as they were; or there is no memory for them.
abbrev pub KeepFails : (old new : ByteRows) → StoreFault → Type 0
KeepFails old new Disk = new ≡ old
KeepFails old new Full = ⊥
KeepFails old new (Damaged part at) = ⊥
KeepFails old new MarkFull = ⊥
KeepFails old new Spent = ⊥
KeepFails old new NoMemory = ⊤

-- A fault of a slot, told of the part in which it is.
abbrev pub in_part : Part → JournalFault → StoreFault
in_part part journal.Disk = Disk
in_part part journal.Full = Full
in_part part (journal.Damaged at) = Damaged part at
in_part part journal.NoMemory = NoMemory

-- Why the rows of a part were not read: the disk failed, the slot breaks off at the place that is told, or there is no memory.
abbrev pub LoadFails : (tells : Bool) → Format → Part → List ℕ → StoreFault → Type 0
LoadFails tells format part bytes Disk = ⊤
LoadFails tells format part bytes Full = ⊥
LoadFails tells format part bytes (Damaged other place) = (other ≡ part) × (IsTrue tells → BreaksOff format bytes place)
LoadFails tells format part bytes MarkFull = ⊥
LoadFails tells format part bytes Spent = ⊥
LoadFails tells format part bytes NoMemory = ⊤

-- The batch was appended, whatever came of the rows.
abbrev pub IsKept : {T : Type 0} → Result T StoreFault → Type 0
IsKept (Ok x) = ⊤
IsKept (Err Disk) = ⊥
IsKept (Err Full) = ⊥
IsKept (Err (Damaged part at)) = ⊥
IsKept (Err MarkFull) = ⊥
IsKept (Err Spent) = ⊥
IsKept (Err NoMemory) = ⊤
