-- When shipping fails (docs/PROMISES.md, "Shipping").
use Rattle.std.specs.Prelude.{◌≡◌, ◌<◌, Bool, IsTrue, length, ⊤, None, Some, Ok, Err}
use Rattle.std.specs.declared.option.Option.{Option}
use Rattle.std.specs.declared.result.Result.{Result}
use Rattle.ziti_outside.specs.declared.desk.Part.TheVariants.{Mark}
use Rattle.ziti_outside.specs.Images.{Image}
use Rattle.ziti_outside.specs.Untouched.{OnlyReads}
use Rattle.ziti_outside.specs.Views.{Seen, Stopped}
use Rattle.ctrl_model.specs.State.{State}
use Rattle.ctrl_model.specs.ValidState.{ValidState}
use Rattle.row_codec.specs.StateRows.{HasRows}
use Rattle.row_store.specs.declared.faults.StoreFault.{StoreFault}
use Rattle.row_store.specs.declared.faults.StoreFault.TheVariants as store
use Rattle.row_store.specs.OpenedStates.{byte_rows_of, OpensToState, IsOfNoState, IsStateless}
use Rattle.row_store.specs.StoredRows.{Stored, IsStoreOf}
use Rattle.ship_core.specs.declared.faults.ShipFault.{ShipFault}
use Rattle.ship_core.specs.declared.faults.ShipFault.TheVariants.{Disk, Write, Damaged, NoMemory}

-- The fault with which a call ended, if it ended with one.
abbrev pub fault_of : {T : Type 0} → Result T ShipFault → Option ShipFault
fault_of (Ok x) = None
fault_of (Err fault) = Some fault

-- The failure of a call on the disk, if that is how a call ended.
abbrev pub disk_failure : Option ShipFault → Result ⊤ ShipFault
disk_failure (Some Disk) = Err Disk
disk_failure _ = Ok tt

-- The failure of a say, if that is how a call ended.
abbrev pub write_failure : Option ShipFault → Result ⊤ ShipFault
write_failure (Some Write) = Err Write
write_failure _ = Ok tt

-- The fault of a store as one of shipping. Those that come of changes alone never come of reading.
abbrev pub of_store : StoreFault → ShipFault
of_store store.Disk = Disk
of_store (store.Damaged part at) = Damaged part at
of_store _ = NoMemory

-- A folder was judged before anything was said: it opens to a state where nothing failed, or a say alone, and to none, with the first place at
-- which it is damaged, where damage is told. Where the disk failed or memory was wanting nothing is known.
abbrev pub Judges : Image → Option ShipFault → Type 0
Judges image None = (s : State) × OpensToState image s
Judges image (Some Write) = (s : State) × OpensToState image s
Judges image (Some (Damaged part at)) = IsStateless image part at
Judges image (Some Disk) = ⊤
Judges image (Some NoMemory) = ⊤

-- The rows of a store are those of a state.
abbrev pub IsOfState : Stored → Type 0
IsOfState stored = (s : State) × ValidState s × HasRows stored.format s × (stored.rows ≡ byte_rows_of stored.format s)

-- The rows of a store were judged: they are those of a state, or of none, or memory was wanting. Nothing else comes.
abbrev pub JudgesRows : Stored → Option ShipFault → Type 0
JudgesRows stored None = IsOfState stored
JudgesRows stored (Some (Damaged part at)) = IsOfNoState stored part at
JudgesRows stored (Some NoMemory) = ⊤
JudgesRows stored (Some Disk) = ⊥
JudgesRows stored (Some Write) = ⊥

-- Why a folder was not found to open to a state: the disk failed, it opens to none, or there is no memory. Nothing else comes.
abbrev pub FindFails : (tells : Bool) → Image → ShipFault → Type 0
FindFails tells image Disk = ⊤
FindFails tells image Write = ⊥
FindFails tells image (Damaged part at) = IsTrue tells → IsStateless image part at
FindFails tells image NoMemory = ⊤

-- What is found of a folder that opens to a state: nothing where its mark is empty, and else its store, whose rows are those of the state.
abbrev pub IsOpenedBy : Image → Option Stored → Type 0
IsOpenedBy image None = length (image Mark) ≡ 0
IsOpenedBy image (Some stored) = (0 < stored.mark) × IsStoreOf image stored × IsOfState stored

-- A folder was not found to open to a state, and nothing but reading was done.
abbrev pub IsUnfound : {D : Type 0} → (tells : Bool) → (D → Seen) → (D → Stopped) → (old new : D) → Option ShipFault → Type 0
IsUnfound tells seen stopped old new None = ⊥
IsUnfound tells seen stopped old new (Some fault) = FindFails tells (seen old).reads fault × OnlyReads seen stopped old new
