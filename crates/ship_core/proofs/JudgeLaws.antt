-- How a folder is judged before it is shipped.
use Rattle.std.proofs.Common.{◌≡◌, ℕ, zero, suc, ◌<◌, Bool, IsTrue, List, length, Option, None, Some, Ok, Err, inl, inr, refl, sym, ap, ◌∙◌, subst, arith}
use Rattle.std.specs.Prelude.{⊤}
use Rattle.std.specs.declared.result.Result.{Result}
use Rattle.ziti_outside.specs.declared.desk.Part.TheVariants.{Mark}
use Rattle.ziti_outside.specs.Images.{Image}
use Rattle.ziti_outside.specs.Causes.{HasCause}
use Rattle.ziti_outside.specs.declared.failed.Failed.{Failed}
use Rattle.ziti_outside.specs.Moments.{Remembers, Leaves}
use Rattle.ziti_outside.specs.Untouched.{OnlyDisk, OnlyReads}
use Rattle.ziti_outside.specs.Views.{Seen, Stopped}
use Rattle.ctrl_model.specs.declared.formats.Format.{Format}
use Rattle.ctrl_model.specs.declared.formats.Format.TheVariants.{Two}
use Rattle.ctrl_model.specs.State.{State, start}
use Rattle.ctrl_model.specs.ValidState.{ValidState}
use Rattle.row_codec.specs.declared.changes.Op.{Op}
use Rattle.row_codec.specs.StateRows.{HasRows}
use Rattle.row_codec.specs.Batches.{batch_between}
use Rattle.row_loading.specs.LoadedRows.{AreOfNoState}
use Rattle.slot_reading.specs.BatchRows.{ByteRows, Give, puts}
use Rattle.row_store.specs.declared.faults.StoreFault.{StoreFault}
use Rattle.row_store.specs.declared.faults.StoreFault.TheVariants as store
use Rattle.row_store.specs.Faults.{disk_failure as store_failure, OpenFails}
use Rattle.row_store.specs.GateBatches.{GateFails}
use Rattle.row_store.specs.OpenedRows.{OpensTo}
use Rattle.row_store.specs.OpenedStates.{byte_rows_of, OpensToState}
use Rattle.row_store.specs.StoredRows.{Stored, IsStoreOf}
use Rattle.row_store.proofs.OpeningLaws.{opens_none}
use Rattle.row_store.proofs.StateRows.{puts_of_state, rows_are, store_without_state, start_valid, start_rows}
use Rattle.ship_core.specs.declared.faults.ShipFault.{ShipFault}
use Rattle.ship_core.specs.declared.faults.ShipFault.TheVariants.{Disk, Write, Damaged, NoMemory}
use Rattle.ship_core.specs.Faults.{disk_failure, of_store, Judges, IsOfState, JudgesRows, FindFails, IsOpenedBy}
use Rattle.ship_core.specs.Steps.{IsUndamaged}

-- Rows whose puts lead to no state are those of none.
pub no_rows : (f : Format) (rows : ByteRows) → AreOfNoState f (puts rows) → (s : State) → ValidState s → HasRows f s → rows ≡ byte_rows_of f s → ⊥
no_rows f rows none s v has e = none s v has (ap puts e ∙ sym (puts_of_state f s))

-- The rows of a store whose puts lead to a state are those of it.
pub of_state : (stored : Stored) (f : Format) (s : State) (ops : List Op) → f ≡ stored.format → ops ≡ puts stored.rows → ops ≡ batch_between f start s → ValidState s → HasRows f s → IsOfState stored
of_state stored f s ops same e leads v has = (
  s,
  v,
  subst (λ (g : Format). HasRows g s) same has,
  rows_are f stored.rows s (sym e ∙ leads) ∙ ap (λ (g : Format). byte_rows_of g s) same,
)

-- And those whose puts lead to none are of none.
pub of_no_state : (stored : Stored) (f : Format) (ops : List Op) → f ≡ stored.format → ops ≡ puts stored.rows → AreOfNoState f ops
    → (s : State) → ValidState s → HasRows stored.format s → stored.rows ≡ byte_rows_of stored.format s → ⊥
of_no_state stored f ops same e none =
    no_rows stored.format stored.rows (subst (λ (g : Format). AreOfNoState g (puts stored.rows)) same (subst (AreOfNoState f) e none))

-- Why the rows of the store of a folder are of no state is why the folder opens to none.
pub rows_fail : (tells : Bool) (image : Image) (stored : Stored) (fault : ShipFault) → (IsTrue tells → IsStoreOf image stored) → JudgesRows stored (Some fault) → FindFails tells image fault
rows_fail tells image stored Disk kept j = absurd j
rows_fail tells image stored Write kept j = absurd j
rows_fail tells image stored (Damaged part at) kept j = λ told. inr (store_without_state image stored part at (kept told) j.0 j.1 j.2)
rows_fail tells image stored NoMemory kept j = tt

-- Why a store was not seen is why its folder was not found to open.
pub store_fails : (tells : Bool) (image : Image) (fault : StoreFault) → OpenFails tells image fault → FindFails tells image (of_store fault)
store_fails tells image store.Disk f = tt
store_fails tells image store.Full f = absurd f
store_fails tells image (store.Damaged part at) f = λ told. inl (f told)
store_fails tells image store.MarkFull f = absurd f
store_fails tells image store.Spent f = absurd f
store_fails tells image store.NoMemory f = tt

-- A fault of a store counts as one of shipping.
pub store_cause : (T : Type 0) (before now : ℕ) (fault : StoreFault) → HasCause before now (store_failure {T = T} (Err fault)) → HasCause before now (disk_failure (Some (of_store fault)))
store_cause T before now store.Disk c = record { later = c.later; once = c.once; calm = tt; failed = c.failed }
store_cause T before now store.Full c = record { later = c.later; once = c.once; calm = c.calm; failed = tt }
store_cause T before now (store.Damaged part at) c = record { later = c.later; once = c.once; calm = c.calm; failed = tt }
store_cause T before now store.MarkFull c = record { later = c.later; once = c.once; calm = c.calm; failed = tt }
store_cause T before now store.Spent c = record { later = c.later; once = c.once; calm = c.calm; failed = tt }
store_cause T before now store.NoMemory c = record { later = c.later; once = c.once; calm = c.calm; failed = tt }

-- A store that was seen counts no fault.
pub seen_cause : {T : Type 0} (before now : ℕ) (x : T) (fault : Option ShipFault) → disk_failure fault ≡ Ok tt → HasCause before now (store_failure {T = T} (Ok x)) → HasCause before now (disk_failure fault)
seen_cause before now x fault e c =
    subst (λ (r : Result ⊤ ShipFault). HasCause before now r) (sym e) (record { later = c.later; once = c.once; calm = c.calm; failed = tt })

-- A fault behind a gate of a told folder is no damage, and no say.
pub gate_undamaged : (tells : Bool) (fault : StoreFault) → GateFails tells fault → IsTrue tells → IsUndamaged (of_store fault)
gate_undamaged tells store.Disk f told = tt
gate_undamaged tells store.Full f told = tt
gate_undamaged tells (store.Damaged part at) f told = f told
gate_undamaged tells store.MarkFull f told = tt
gate_undamaged tells store.Spent f told = tt
gate_undamaged tells store.NoMemory f told = tt

pub store_unwritten : (fault : StoreFault) → of_store fault ≡ Write → ⊥
store_unwritten store.Disk e = cc
store_unwritten store.Full e = cc
store_unwritten (store.Damaged part at) e = cc
store_unwritten store.MarkFull e = cc
store_unwritten store.Spent e = cc
store_unwritten store.NoMemory e = cc

-- The folder of a store whose rows are those of a state opens to it.
pub opens_so : (image : Image) (stored : Stored) → IsStoreOf image stored → (of : IsOfState stored) → OpensToState image of.0
opens_so image stored kept of = record {
  format = stored.format;
  has = of.2;
  valid = of.1;
  rows = record { batches = kept.batches; stands = kept.stands; give = subst (λ (r : ByteRows). Give stored.format kept.batches r) of.3 kept.give };
}

pub store_opens : (image : Image) (stored : Stored) → IsStoreOf image stored → IsOfState stored → (s : State) × OpensToState image s
store_opens image stored kept of = (of.0, opens_so image stored kept of)

-- Over an empty mark a folder opens to the start.
pub start_opens : (image : Image) → length (image Mark) ≡ 0 → OpensToState image start
start_opens image e = record { format = Two; has = tt; valid = start_valid; rows = subst (OpensTo Two image) (sym (start_rows Two)) (opens_none Two image e) }

pub empty_opens : (image : Image) → length (image Mark) ≡ 0 → (s : State) × OpensToState image s
empty_opens image e = (start, start_opens image e)

-- A folder that opens is judged so by every fault but damage.
pub opened_judges : (image : Image) (fault : Option ShipFault) → ((s : State) × OpensToState image s) → ((f : ShipFault) → fault ≡ Some f → IsUndamaged f) → Judges image fault
opened_judges image None opens sound = opens
opened_judges image (Some Disk) opens sound = tt
opened_judges image (Some Write) opens sound = opens
opened_judges image (Some (Damaged part at)) opens sound = absurd (sound (Damaged part at) refl)
opened_judges image (Some NoMemory) opens sound = tt

-- One that was not found to open is judged so by its fault.
pub failed_judges : (tells : Bool) (image : Image) (fault : ShipFault) → IsTrue tells → FindFails tells image fault → Judges image (Some fault)
failed_judges tells image Disk told f = tt
failed_judges tells image Write told f = absurd f
failed_judges tells image (Damaged part at) told f = f told
failed_judges tells image NoMemory told f = tt

-- A store that was seen and then judged counts no fault.
pub rows_cause : (before now : ℕ) (stored : Stored) (fault : ShipFault) → JudgesRows stored (Some fault) → HasCause before now (store_failure {T = Stored} (Ok stored))
    → HasCause before now (disk_failure (Some fault))
rows_cause before now stored Disk j c = absurd j
rows_cause before now stored Write j c = absurd j
rows_cause before now stored (Damaged part at) j c = record { later = c.later; once = c.once; calm = c.calm; failed = tt }
rows_cause before now stored NoMemory j c = record { later = c.later; once = c.once; calm = c.calm; failed = tt }

-- ---- the mark

-- The mark was looked at.
pub len_reads : {D : Type 0} {seen : D → Seen} {stopped : D → Stopped} {old new : D} → (seen new).reads ≡ (seen old).reads → OnlyDisk seen old new → Leaves seen stopped old new (stopped old).images
    → Remembers (stopped old) (stopped new) → OnlyReads seen stopped old new
len_reads parts others stops remembers = record { parts = parts; others = others; stops = stops; remembers = remembers }

pub len_cause : {T : Type 0} (before now : ℕ) (x : T) → HasCause {T = T} {E = Failed} before now (Ok x) → HasCause before now (disk_failure None)
len_cause before now x c = record { later = c.later; once = c.once; calm = c.calm; failed = tt }

pub len_failed : (T : Type 0) (before now : ℕ) (f : Failed) → HasCause {T = T} {E = Failed} before now (Err f) → HasCause before now (disk_failure (Some Disk))
len_failed T before now f c = record { later = c.later; once = c.once; calm = tt; failed = c.failed }

-- A cause behind a calm one.
pub cause_behind : (before mid now : ℕ) (fault : Option ShipFault) → HasCause before mid (disk_failure None) → HasCause mid now (disk_failure fault) → HasCause before now (disk_failure fault)
cause_behind before mid now fault first second = subst (λ (n : ℕ). HasCause n now (disk_failure fault)) first.calm second

-- Why a folder that reads as before was not found to open is why it was not before.
pub fails_before : (tells : Bool) (reads now : Image) (fault : ShipFault) → now ≡ reads → FindFails tells now fault → FindFails tells reads fault
fails_before tells reads now fault e f = subst (λ (i : Image). FindFails tells i fault) e f

-- A store that was found behind a mark that is not empty.
pub opened_by : (reads now : Image) (stored : Stored) (len : ℕ) → now ≡ reads → len ≡ length (reads Mark) → (len ≡ 0 → ⊥) → IsStoreOf now stored → IsOfState stored → IsOpenedBy reads (Some stored)
opened_by reads now stored len e mark some kept of =
    let own : IsStoreOf reads stored = subst (λ (i : Image). IsStoreOf i stored) e kept in
    let long = own.mark in
    (above_none len some mark long, own, of)
  where
    above_none : (n : ℕ) → (n ≡ 0 → ⊥) → n ≡ length (reads Mark) → length (reads Mark) ≡ stored.mark → 0 < stored.mark
    above_none zero never a b = absurd (never refl)
    above_none (suc n) never a b = omega (arith, a, b)

-- The disk alone failed.
pub disk_fails : (tells : Bool) (image : Image) (fault : ShipFault) → fault ≡ Disk → FindFails tells image fault
disk_fails tells image fault e = subst (FindFails tells image) (sym e) tt

-- Two results that are one fault.
pub err_is : (T : Type 0) (x y : ShipFault) → ◌≡◌ {A = Result T ShipFault} (Err x) (Err y) → x ≡ y
err_is T x y p = cc
