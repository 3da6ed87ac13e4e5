-- When the calls on a kept controller fail (docs/PROMISES.md, "The kept controller").
use Rattle.std.specs.Prelude.{◌≡◌, ◌⊎◌, ◌≤◌, ◌<◌, ⊤, Bool, true, false, IsTrue, List, Ok, Err}
use Rattle.std.specs.declared.result.Result.{Result}
use Rattle.ziti_outside.specs.Images.{Image}
use Rattle.ctrl_core.specs.KeptState.{Cored}
use Rattle.row_codec.specs.declared.changes.Op.{Op}
use Rattle.row_store.specs.declared.faults.StoreFault.{StoreFault}
use Rattle.row_store.specs.declared.faults.StoreFault.TheVariants as store_fault
use Rattle.row_store.specs.StoredRows.{Stored, size_with, with_ops, spent_of, spent_with}
use Rattle.ctrl_keep.specs.declared.faults.KeepFault.{KeepFault}
use Rattle.ctrl_keep.specs.declared.faults.KeepFault.TheVariants.{Disk, Full, MarkFull, Damaged, Spent, NoMemory}
use Rattle.row_store.specs.declared.bounds.StoreBounds.{StoreBounds}
use Rattle.row_store.specs.OpenedStates.{IsStateless}
use Rattle.ctrl_keep.specs.KeptController.{Controlled}
use Rattle.ctrl_keep.specs.MigratedFolders.{LacksSlot, LacksMark}

-- The failure of a call on the disk, if that is how a call ended.
abbrev pub disk_failure : {T : Type 0} → Result T KeepFault → Result ⊤ KeepFault
disk_failure (Ok x) = Ok tt
disk_failure (Err Disk) = Err Disk
disk_failure (Err Full) = Ok tt
disk_failure (Err MarkFull) = Ok tt
disk_failure (Err (Damaged part at)) = Ok tt
disk_failure (Err Spent) = Ok tt
disk_failure (Err NoMemory) = Ok tt

-- The fault that a store's fault is, where it is not told of as a reply.
abbrev pub fault_of : StoreFault → KeepFault
fault_of store_fault.Disk = Disk
fault_of store_fault.Full = Full
fault_of (store_fault.Damaged part at) = Damaged part at
fault_of store_fault.MarkFull = MarkFull
fault_of store_fault.Spent = Spent
fault_of store_fault.NoMemory = NoMemory

-- Why a folder was not opened by reading alone: the disk failed, it opens to no state, which is told with its place, or there is no memory.
-- Nothing else is told.
abbrev pub PeekFails : (tells : Bool) → Image → KeepFault → Type 0
PeekFails tells image Disk = ⊤
PeekFails tells image Full = ⊥
PeekFails tells image MarkFull = ⊥
PeekFails tells image (Damaged part at) = IsTrue tells → IsStateless image part at
PeekFails tells image Spent = ⊥
PeekFails tells image NoMemory = ⊤

-- Why a folder was not opened within bounds: for one of these, or since it opens to a state in the first format and has no room to be migrated, in
-- its other slot or, where that has room, in its mark.
abbrev pub OpenFails : (tells : Bool) → StoreBounds → Image → KeepFault → Type 0
OpenFails tells bounds image Disk = ⊤
OpenFails tells bounds image Full = IsTrue tells → LacksSlot bounds image
OpenFails tells bounds image MarkFull = IsTrue tells → LacksMark bounds image
OpenFails tells bounds image (Damaged part at) = IsTrue tells → IsStateless image part at
OpenFails tells bounds image Spent = ⊥
OpenFails tells bounds image NoMemory = ⊤

-- Nothing was done, to the controller and to the desk.
abbrev pub NothingDone : {D : Type 0} → (old new : Controlled) (desk later : D) → Type 0
NothingDone old new desk later = (new ≡ old) × (later ≡ desk)

-- Why a command was not answered. Spent comes exactly where the controller is spent, and then nothing was done. A fault of the disk
-- spends it. Want of memory leaves all as it was, or spends it. Nothing else is told.
abbrev pub SubmitFails : {D : Type 0} → (old new : Controlled) (desk later : D) → KeepFault → Type 0
SubmitFails old new desk later Disk = (old.spent ≡ false) × (new.spent ≡ true) × (new.state ≡ old.state)
SubmitFails old new desk later Full = ⊥
SubmitFails old new desk later MarkFull = ⊥
SubmitFails old new desk later (Damaged part at) = ⊥
SubmitFails old new desk later Spent = (old.spent ≡ true) × NothingDone old new desk later
SubmitFails old new desk later NoMemory = (old.spent ≡ false) × (NothingDone old new desk later ⊎ (new.spent ≡ true))

-- A batch was kept, or there was no room for it and nothing was done.
abbrev pub KeptOrFull : {D : Type 0} → List Op → (old new : Stored) (desk later : D) (kept : Bool) → Type 0
KeptOrFull ops old new desk later true = (size_with old ops ≤ old.bounds.slot) × (new ≡ with_ops old ops)
KeptOrFull ops old new desk later false = (old.bounds.slot < size_with old ops) × (new ≡ old) × (later ≡ desk)

-- Why a batch was not kept for which there was room: the disk failed, and the rows are as they were; or there was no memory, and nothing
-- was done, or all but the rows is as it was. The store is spent where something was done.
abbrev pub KeepFails : {D : Type 0} → List Op → (old new : Stored) (desk later : D) → KeepFault → Type 0
KeepFails ops old new desk later Disk = (size_with old ops ≤ old.bounds.slot) × (new ≡ spent_of old)
KeepFails ops old new desk later Full = ⊥
KeepFails ops old new desk later MarkFull = ⊥
KeepFails ops old new desk later (Damaged part at) = ⊥
KeepFails ops old new desk later Spent = ⊥
KeepFails ops old new desk later NoMemory =
    (size_with old ops ≤ old.bounds.slot) × (((new ≡ old) × (later ≡ desk)) ⊎ (new ≡ spent_with old new.rows))

-- Why a plan was not carried out: the disk failed, which spends the controller and leaves the state; or there was no memory, and nothing
-- was done or the controller is spent.
abbrev pub AdvanceFails : {D : Type 0} → (core coming : Cored) (old new : Stored) (spent : Bool) (desk later : D) → KeepFault → Type 0
AdvanceFails core coming old new spent desk later Disk = (spent ≡ true) × (coming.state ≡ core.state)
AdvanceFails core coming old new spent desk later Full = ⊥
AdvanceFails core coming old new spent desk later MarkFull = ⊥
AdvanceFails core coming old new spent desk later (Damaged part at) = ⊥
AdvanceFails core coming old new spent desk later Spent = ⊥
AdvanceFails core coming old new spent desk later NoMemory =
    ((coming ≡ core) × (new ≡ old) × (spent ≡ false) × (later ≡ desk)) ⊎ (spent ≡ true)
