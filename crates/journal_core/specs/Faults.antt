-- When the calls on a slot fail (docs/PROMISES.md, "One slot").
use Rattle.std.specs.Prelude.{◌≡◌, ℕ, ◌<◌, ◌≤◌, Bool, IsTrue, List, ⊤, Ok, Err}
use Rattle.std.specs.declared.result.Result.{Result}
use Rattle.journal_core.specs.declared.faults.JournalFault.{JournalFault}
use Rattle.journal_core.specs.declared.faults.JournalFault.TheVariants.{Disk, Full, Damaged, NoMemory}
use Rattle.journal_core.specs.Slots.{IsRecord, IsDamaged}

-- The failure of a call on the disk, if that is how a call ended.
abbrev pub disk_failure : {T : Type 0} → Result T JournalFault → Result ⊤ JournalFault
disk_failure (Ok x) = Ok tt
disk_failure (Err Disk) = Err Disk
disk_failure (Err Full) = Ok tt
disk_failure (Err (Damaged at)) = Ok tt
disk_failure (Err NoMemory) = Ok tt

-- Why nothing was appended: the disk failed, or the slot would pass its bound. Nothing else is told.
abbrev pub AppendFails : (end most : ℕ) → JournalFault → Type 0
AppendFails end most Disk = end ≤ most
AppendFails end most Full = most < end
AppendFails end most (Damaged at) = ⊥
AppendFails end most NoMemory = ⊥

-- Why no record was read: the disk failed, neither a closed gate nor a whole record stands there, or there is no memory for
-- the record that does.
abbrev pub ReadFails : (tells : Bool) (at : ℕ) → List ℕ → JournalFault → Type 0
ReadFails tells at bytes Disk = ⊤
ReadFails tells at bytes Full = ⊥
ReadFails tells at bytes (Damaged place) = (place ≡ at) × (IsTrue tells → IsDamaged at bytes)
ReadFails tells at bytes NoMemory = IsTrue tells → (payload : List ℕ) × IsRecord at payload bytes
