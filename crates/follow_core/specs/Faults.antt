-- When the calls on a follower fail (docs/PROMISES.md, "Following").
use Rattle.std.specs.Prelude.{◌≡◌, ◌⊎◌, ⊤, true, false, Ok, Err}
use Rattle.std.specs.declared.result.Result.{Result}
use Rattle.row_store.specs.StoredRows.{Stored}
use Rattle.follow_core.specs.declared.faults.FollowFault.{FollowFault}
use Rattle.follow_core.specs.declared.faults.FollowFault.TheVariants.{Disk, Full, MarkFull, Damaged, Spent, NoMemory}
use Rattle.follow_core.specs.FollowedCopies.{Followed}

-- The failure of a call on the disk, if that is how a call ended.
abbrev pub disk_failure : {T : Type 0} → Result T FollowFault → Result ⊤ FollowFault
disk_failure (Ok x) = Ok tt
disk_failure (Err Disk) = Err Disk
disk_failure (Err Full) = Ok tt
disk_failure (Err MarkFull) = Ok tt
disk_failure (Err (Damaged part at)) = Ok tt
disk_failure (Err Spent) = Ok tt
disk_failure (Err NoMemory) = Ok tt

-- Why a folder was not read: the disk failed, or there is no memory. Nothing else is told.
abbrev pub IsReadFault : FollowFault → Type 0
IsReadFault Disk = ⊤
IsReadFault Full = ⊥
IsReadFault MarkFull = ⊥
IsReadFault (Damaged part at) = ⊥
IsReadFault Spent = ⊥
IsReadFault NoMemory = ⊤

-- Nothing was done, to the follower and to the desk.
abbrev pub NothingDone : {D : Type 0} → (old new : Followed) (desk later : D) → Type 0
NothingDone old new desk later = (new ≡ old) × (later ≡ desk)

-- Why a frame was not taken. Spent comes exactly where the follower is spent, and then nothing was done. A fault of the disk, or want of memory, leaves
-- the rows or spends the follower. Nothing else is told.
abbrev pub TakeFails : {D : Type 0} → (old new : Followed) (desk later : D) → FollowFault → Type 0
TakeFails old new desk later Disk = (old.stored.spent ≡ false) × (new.stored.rows ≡ old.stored.rows)
TakeFails old new desk later Full = ⊥
TakeFails old new desk later MarkFull = ⊥
TakeFails old new desk later (Damaged part at) = ⊥
TakeFails old new desk later Spent = (old.stored.spent ≡ true) × NothingDone old new desk later
TakeFails old new desk later NoMemory = (old.stored.spent ≡ false) × ((new.stored ≡ old.stored) ⊎ (new.stored.spent ≡ true))

-- Why a batch was not received: the disk failed, and the rows are as they were; or there is no memory, and the store is as it was or spent.
abbrev pub ReceiveFails : (old new : Stored) → FollowFault → Type 0
ReceiveFails old new Disk = new.rows ≡ old.rows
ReceiveFails old new Full = ⊥
ReceiveFails old new MarkFull = ⊥
ReceiveFails old new (Damaged part at) = ⊥
ReceiveFails old new Spent = ⊥
ReceiveFails old new NoMemory = (new ≡ old) ⊎ (new.spent ≡ true)
