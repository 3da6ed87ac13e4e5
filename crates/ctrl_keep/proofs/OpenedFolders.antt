-- What a folder opens to, and why it opens to no state or is not migrated: from its rows, and from what was told of the calls below.
use Rattle.std.proofs.Common.{◌≡◌, ◌⊎◌, inl, inr, false, ℕ, zero, suc, ◌≤◌, ◌<◌, Bool, IsTrue, IfOk, Ok, Err, List, [], ◌∷◌, ◌++◌, length, drop, map, max, refl, sym, ap, ◌∙◌, subst, arith}
use Rattle.std.specs.declared.result.Result.{Result}
use Rattle.ziti_outside.specs.declared.desk.Part.{Part}
use Rattle.ziti_outside.specs.declared.desk.Part.TheVariants.{Mark}
use Rattle.ziti_outside.specs.Causes.{HasCause}
use Rattle.ziti_outside.specs.Images.{Image}
use Rattle.ziti_outside.specs.Moments.{Leaves}
use Rattle.ziti_outside.specs.Untouched.{OnlyReads}
use Rattle.ziti_outside.specs.Views.{Seen, Stopped}
use Rattle.ziti_outside.proofs.MomentLaws.{Leaves-then, Leaves-weaker}
use Rattle.ctrl_model.specs.declared.formats.Format.{Format}
use Rattle.ctrl_model.specs.declared.formats.Format.TheVariants.{One, Two}
use Rattle.ctrl_model.specs.State.{State, start}
use Rattle.ctrl_model.specs.ValidState.{ValidState}
use Rattle.journal_core.specs.Room.{empty_size, HoldsRoom}
use Rattle.journal_core.proofs.RoomLaws.{held_then, held_within}
use Rattle.journal_core.specs.Slots.{slot_bytes}
use Rattle.slot_files.specs.FolderImage.{slot_of, Stands}
use Rattle.slot_files.specs.SwitchedSlots.{other_slot}
use Rattle.slot_files.specs.OpenedSlots.{Opens}
use Rattle.row_store.specs.declared.bounds.StoreBounds.{StoreBounds}
use Rattle.row_store.specs.declared.faults.StoreFault.{StoreFault}
use Rattle.row_store.specs.declared.faults.StoreFault.TheVariants as store_fault
use Rattle.row_store.specs.Faults.{disk_failure as store_failure, OpenFails as StoreFails}
use Rattle.row_codec.specs.declared.changes.Op.{Op}
use Rattle.row_codec.specs.Batches.{batch_between}
use Rattle.row_codec.specs.NarrowedRows.{narrowed}
use Rattle.row_codec.specs.StateRows.{HasRows}
use Rattle.row_laws.proofs.NarrowedLaws.{rows_narrowed}
use Rattle.row_loading.specs.LoadedRows.{AreOfNoState}
use Rattle.slot_reading.specs.BatchRows.{ByteRows, puts}
use Rattle.row_store.specs.OpenedRows.{OpensTo}
use Rattle.row_store.specs.OpenedStates.{byte_rows_of, OpensToState, IsStateless}
use Rattle.row_store.specs.RewrittenStores.{compacted, compacted_size, IsRewritten}
use Rattle.row_store.specs.StoredRows.{Stored, IsStoreOf}
use Rattle.row_store.proofs.StateRows.{opens_state, puts_of_state, rows_are, store_without_state, no_state_by}
use Rattle.ctrl_core.specs.KeptFormat.{kept_format}
use Rattle.ctrl_core.specs.KeptState.{Cored}
use Rattle.ctrl_keep.specs.declared.faults.KeepFault.{KeepFault}
use Rattle.ctrl_keep.specs.declared.faults.KeepFault.TheVariants.{Disk, Full, MarkFull, Damaged, Spent, NoMemory}
use Rattle.ctrl_keep.specs.KeptController.{Controlled, HoldsRows}
use Rattle.ctrl_keep.specs.Faults.{disk_failure, fault_of, PeekFails, OpenFails}
use Rattle.ctrl_keep.specs.MigratedFolders.{OpensInFirst, migrated_size, Migrates, IsMigrated, MayMigrate, MigratesBy}
use Rattle.ctrl_keep.specs.TurnedStores.{narrow_rows, HasState, HasRoomToTurn, IsLeft, IsTurned, LoadFails, LookFails}

-- Rows whose puts lead to no state are those of none.
pub no_rows : (f : Format) (rows : ByteRows) → AreOfNoState f (puts rows) → (s : State) → ValidState s → HasRows f s → rows ≡ byte_rows_of f s → ⊥
no_rows f rows none s v has e = none s v has (ap puts e ∙ sym (puts_of_state f s))

pub no_rows_in : (stored : Stored) (f : Format) (ops : List Op) → f ≡ stored.format → ops ≡ puts stored.rows → AreOfNoState f ops
    → (s : State) → ValidState s → HasRows stored.format s → stored.rows ≡ byte_rows_of stored.format s → ⊥
no_rows_in stored f ops same all none =
    no_rows stored.format stored.rows (subst (λ (g : Format). AreOfNoState g (puts stored.rows)) same (subst (AreOfNoState f) all none))

-- Rows whose puts are all those of a state are those of it.
pub has_state : (stored : Stored) (f : Format) (s : State) (ops : List Op) → f ≡ stored.format → ops ≡ puts stored.rows → ops ≡ batch_between f start s → ValidState s → HasRows f s → HasState stored s
has_state stored f s ops same all made v has = record {
  valid = v;
  has = subst (λ (g : Format). HasRows g s) same has;
  rows = rows_are stored.format stored.rows s (sym all ∙ made ∙ ap (λ (g : Format). batch_between g start s) same);
}

-- ---- a folder that was only looked at

-- What it opens to is the state whose rows its store has.
pub store_opens : (image : Image) (stored : Stored) (s : State) → IsStoreOf image stored → HasState stored s → OpensTo stored.format image (byte_rows_of stored.format s)
store_opens image stored s here has = subst (OpensTo stored.format image) has.rows (record { batches = here.batches; stands = here.stands; give = here.give })

pub peek_opens : {T : Type 0} (state_of : T → State) (tells : Bool) (image : Image) (stored : Stored) (r : Result T KeepFault) → (IsTrue tells → IsStoreOf image stored)
    → IfOk r (λ read. HasState stored (state_of read)) → IfOk r (λ read. IsTrue tells → OpensToState image (state_of read))
peek_opens state_of tells image stored (Ok read) opens has = λ told.
    record { format = stored.format; has = has.has; valid = has.valid; rows = store_opens image stored (state_of read) (opens told) has }
peek_opens state_of tells image stored (Err fault) opens has = tt

-- Over an empty mark the store has the rows of the state at the start.
peek_none : (image : Image) (stored : Stored) (part : Part) (at : ℕ) → IsStoreOf image stored → LookFails stored (Damaged part at) → IsStateless image part at
peek_none image stored part at here none = inr (store_without_state image stored part at here none.0 none.1 none.2)

-- Why its rows gave no core is why it was not opened.
pub peek_fails : (tells : Bool) (image : Image) (stored : Stored) (fault : KeepFault) → (IsTrue tells → IsStoreOf image stored) → LookFails stored fault → PeekFails tells image fault
peek_fails tells image stored Disk opens f = tt
peek_fails tells image stored Full opens f = f
peek_fails tells image stored MarkFull opens f = f
peek_fails tells image stored (Damaged part at) opens f = λ told. peek_none image stored part at (opens told) f
peek_fails tells image stored Spent opens f = f
peek_fails tells image stored NoMemory opens f = tt

-- Why its store was not is why it was not.
pub peek_closed : (tells : Bool) (image : Image) (fault : StoreFault) → StoreFails tells image fault → PeekFails tells image (fault_of fault)
peek_closed tells image store_fault.Disk f = tt
peek_closed tells image store_fault.Full f = f
peek_closed tells image (store_fault.Damaged part at) f = λ told. inl (f told)
peek_closed tells image store_fault.MarkFull f = f
peek_closed tells image store_fault.Spent f = f
peek_closed tells image store_fault.NoMemory f = tt

-- ---- the cause of a fault, whatever the call gives

-- A fault that is told as that of the keeper has its cause.
pub cause_told : (T U : Type 0) (before now : ℕ) (fault : StoreFault) → HasCause before now (store_failure {T = T} (Err fault))
    → HasCause before now (disk_failure {T = U} (Err (fault_of fault)))
cause_told T U before now store_fault.Disk h = record { later = h.later; once = h.once; calm = h.calm; failed = h.failed }
cause_told T U before now store_fault.Full h = record { later = h.later; once = h.once; calm = h.calm; failed = tt }
cause_told T U before now (store_fault.Damaged part at) h = record { later = h.later; once = h.once; calm = h.calm; failed = tt }
cause_told T U before now store_fault.MarkFull h = record { later = h.later; once = h.once; calm = h.calm; failed = tt }
cause_told T U before now store_fault.Spent h = record { later = h.later; once = h.once; calm = h.calm; failed = tt }
cause_told T U before now store_fault.NoMemory h = record { later = h.later; once = h.once; calm = h.calm; failed = tt }

-- ---- a store that was opened

-- What is told of the store of a folder that was opened, and may be migrated.
pub record IsOpenedAs (bounds : StoreBounds) (before mid : Image) (stored : Stored) : Type 0 where
  pub bounds_are : stored.bounds ≡ bounds
  pub opens : Opens kept_format (length (before Mark)) before mid
  pub rows : OpensTo stored.format before stored.rows
  pub created : length (before Mark) ≡ 0 → stored.format ≡ kept_format
  pub kept : IsStoreOf mid stored

pub opened_as : (tells : Bool) (bounds : StoreBounds) (before mid : Image) (stored : Stored) → stored.bounds ≡ bounds → (IsTrue tells → Opens kept_format (length (before Mark)) before mid)
    → (IsTrue tells → OpensTo stored.format before stored.rows) → (IsTrue tells → length (before Mark) ≡ 0 → stored.format ≡ kept_format) → (IsTrue tells → IsStoreOf mid stored)
    → IsTrue tells → IsOpenedAs bounds before mid stored
opened_as tells bounds before mid stored same opens rows created kept told =
    record { bounds_are = same; opens = opens told; rows = rows told; created = created told; kept = kept told }

One≢Two : One ≡ Two → ⊥
One≢Two e = cc

above_none : (n : ℕ) → (n ≡ 0 → ⊥) → 0 < n
above_none zero none = absurd (none refl)
above_none (suc n) none = omega arith

-- A folder of the first format has a mark, and reads as before.
first_some : (bounds : StoreBounds) (before mid : Image) (stored : Stored) → IsOpenedAs bounds before mid stored → stored.format ≡ One → 0 < length (before Mark)
first_some bounds before mid stored o first = above_none (length (before Mark)) (λ none. One≢Two (sym first ∙ o.created none))

same_folder : (mark : ℕ) (before mid : Image) → 0 < mark → Opens kept_format mark before mid → mid ≡ before
same_folder zero before mid some opens = absurd (omega (arith, some))
same_folder (suc turn) before mid some opens = opens

first_same : (bounds : StoreBounds) (before mid : Image) (stored : Stored) → IsOpenedAs bounds before mid stored → stored.format ≡ One → mid ≡ before
first_same bounds before mid stored o first = same_folder (length (before Mark)) before mid (first_some bounds before mid stored o first) o.opens

first_mark : (bounds : StoreBounds) (before mid : Image) (stored : Stored) → IsOpenedAs bounds before mid stored → stored.format ≡ One → stored.mark ≡ length (before Mark)
first_mark bounds before mid stored o first = sym o.kept.mark ∙ ap (λ (i : Image). length (i Mark)) (first_same bounds before mid stored o first)

-- Its rows are those of the state, and narrowed they are those of the kept format.
has_first : (stored : Stored) (s : State) → stored.format ≡ One → HasState stored s → HasRows One s
has_first stored s first has = subst (λ (f : Format). HasRows f s) first has.has

pub narrowed_are : (stored : Stored) (s : State) → stored.format ≡ One → HasState stored s → narrow_rows stored ≡ byte_rows_of kept_format s
narrowed_are stored s first has =
    ap (map narrowed) (has.rows ∙ ap (λ (f : Format). byte_rows_of f s) first) ∙ sym (rows_narrowed s (has_first stored s first has))

pub opens_first : (bounds : StoreBounds) (before mid : Image) (stored : Stored) (s : State) → IsOpenedAs bounds before mid stored → stored.format ≡ One → HasState stored s → OpensInFirst before s
opens_first bounds before mid stored s o first has = record {
  some = first_some bounds before mid stored o first;
  valid = has.valid;
  has = has_first stored s first has;
  rows = subst (λ (f : Format). OpensTo f before (byte_rows_of f s)) first (subst (OpensTo stored.format before) has.rows o.rows);
}

size_is : (stored : Stored) (s : State) → stored.format ≡ One → HasState stored s → compacted_size (narrow_rows stored) ≡ migrated_size s
size_is stored s first has = ap compacted_size (narrowed_are stored s first has)

at_most : (a b c d : ℕ) → a ≡ b → c ≡ d → a ≤ c → b ≤ d
at_most a b c d e f le = subst (λ (x : ℕ). x ≤ d) e (subst (λ (x : ℕ). a ≤ x) f le)

below : (a b c d : ℕ) → a ≡ b → c ≡ d → a < c → b < d
below a b c d e f le = subst (λ (x : ℕ). x < d) e (subst (λ (x : ℕ). a < x) f le)

pub migrates_of : (bounds : StoreBounds) (before mid : Image) (stored : Stored) (s : State) → HasState stored s → HasRoomToTurn stored → IsOpenedAs bounds before mid stored → Migrates bounds before s
migrates_of bounds before mid stored s has turn o = record {
  opens = opens_first bounds before mid stored s o turn.first has;
  slot = at_most (compacted_size (narrow_rows stored)) (migrated_size s) stored.bounds.slot bounds.slot (size_is stored s turn.first has) (ap (λ (b : StoreBounds). b.slot) o.bounds_are) turn.room.0;
  mark = below stored.mark (length (before Mark)) stored.bounds.mark bounds.mark (first_mark bounds before mid stored o turn.first) (ap (λ (b : StoreBounds). b.mark) o.bounds_are) turn.room.1;
}

-- What opens to either rows of it opens to the state.
pub turned_opens : (stored : Stored) (s : State) (image : Image) → HasState stored s → HasRoomToTurn stored → OpensTo stored.format image stored.rows ⊎ OpensTo kept_format image (narrow_rows stored) → OpensToState image s
turned_opens stored s image has turn (inl p) = opens_state stored.format image s stored.rows has.valid has.has has.rows p
turned_opens stored s image has turn (inr p) = opens_state kept_format image s (narrow_rows stored) has.valid tt (narrowed_are stored s turn.first has) p

-- ---- why it was not opened

-- Why its rows gave no controller is why the folder was not opened.
pub load_fails : (tells : Bool) (bounds : StoreBounds) (before mid : Image) (stored : Stored) (fault : KeepFault) → (IsTrue tells → IsOpenedAs bounds before mid stored) → LoadFails stored fault → OpenFails tells bounds before fault
load_fails tells bounds before mid stored Disk opened f = tt
load_fails tells bounds before mid stored Full opened (inl f) = absurd f
load_fails tells bounds before mid stored Full opened (inr (s, has, (first, long))) = λ told. record {
  state = s;
  opens = opens_first bounds before mid stored s (opened told) first has;
  slot = below stored.bounds.slot bounds.slot (compacted_size (narrow_rows stored)) (migrated_size s) (ap (λ (b : StoreBounds). b.slot) (opened told).bounds_are) (size_is stored s first has) long;
}
load_fails tells bounds before mid stored MarkFull opened (inl f) = absurd f
load_fails tells bounds before mid stored MarkFull opened (inr (s, has, (first, fits, long))) = λ told. record {
  state = s;
  opens = opens_first bounds before mid stored s (opened told) first has;
  slot = at_most (compacted_size (narrow_rows stored)) (migrated_size s) stored.bounds.slot bounds.slot (size_is stored s first has) (ap (λ (b : StoreBounds). b.slot) (opened told).bounds_are) fits;
  mark = at_most stored.bounds.mark bounds.mark stored.mark (length (before Mark)) (ap (λ (b : StoreBounds). b.mark) (opened told).bounds_are) (first_mark bounds before mid stored (opened told) first) long;
}
load_fails tells bounds before mid stored (Damaged part at) opened (inl none) = λ told.
    let o = opened told in
    inr (no_state_by kept_format (length (before Mark)) before mid stored part at refl o.opens o.rows o.kept none.0 none.1 none.2)
load_fails tells bounds before mid stored (Damaged part at) opened (inr (s, has, f)) = absurd f
load_fails tells bounds before mid stored Spent opened (inl f) = absurd f
load_fails tells bounds before mid stored Spent opened (inr (s, has, f)) = absurd f
load_fails tells bounds before mid stored NoMemory opened f = tt

-- Why its store was not opened is why it was not.
pub open_closed : (tells : Bool) (bounds : StoreBounds) (image : Image) (fault : StoreFault) → StoreFails tells image fault → OpenFails tells bounds image (fault_of fault)
open_closed tells bounds image store_fault.Disk f = tt
open_closed tells bounds image store_fault.Full f = absurd f
open_closed tells bounds image (store_fault.Damaged part at) f = λ told. inl (f told)
open_closed tells bounds image store_fault.MarkFull f = absurd f
open_closed tells bounds image store_fault.Spent f = f
open_closed tells bounds image store_fault.NoMemory f = tt

-- ---- what was opened

-- What the folder opened to is the state whose rows its store has.
pub load_opens : (tells : Bool) (image : Image) (stored : Stored) (r : Result Controlled KeepFault) → (IsTrue tells → OpensTo stored.format image stored.rows)
    → IfOk r (λ kept. HasState stored kept.state) → IfOk r (λ kept. IsTrue tells → OpensToState image kept.state)
load_opens tells image stored (Ok kept) opens has = λ told. opens_state stored.format image kept.state stored.rows has.valid has.has has.rows (opens told)
load_opens tells image stored (Err fault) opens has = tt

turned_rows : {D : Type 0} {tells : Bool} {seen : D → Seen} {stored later : Stored} {desk new : D} (s : State) → HasState stored s
    → IsLeft stored later desk new ⊎ IsTurned tells seen stored later desk new → (later.format ≡ kept_format) × (later.rows ≡ byte_rows_of kept_format s) × (later.bounds ≡ stored.bounds)
turned_rows {stored = stored} s has (inl left) = (
  ap (λ (l : Stored). l.format) left.store ∙ left.format,
  ap (λ (l : Stored). l.rows) left.store ∙ has.rows ∙ ap (λ (f : Format). byte_rows_of f s) left.format,
  ap (λ (l : Stored). l.bounds) left.store,
)
turned_rows {stored = stored} s has (inr turned) = (
  ap (λ (l : Stored). l.format) turned.store,
  ap (λ (l : Stored). l.rows) turned.store ∙ narrowed_are stored s turned.had.first has,
  ap (λ (l : Stored). l.bounds) turned.store,
)

-- It has, in the kept format, the rows of that state.
pub load_holds : {D : Type 0} (tells : Bool) (seen : D → Seen) (stored : Stored) (desk new : D) (r : Result Controlled KeepFault) → IfOk r (λ kept. HasState stored kept.state)
    → IfOk r (λ kept. IsLeft stored kept.stored desk new ⊎ IsTurned tells seen stored kept.stored desk new) → IfOk r HoldsRows
load_holds tells seen stored desk new (Ok kept) has turned = let same = turned_rows kept.state has turned in record { format = same.0; rows = same.1; valid = has.valid }
load_holds tells seen stored desk new (Err fault) has turned = tt

pub load_bounds : {D : Type 0} (tells : Bool) (seen : D → Seen) (bounds : StoreBounds) (stored : Stored) (desk new : D) (r : Result Controlled KeepFault) → stored.bounds ≡ bounds
    → IfOk r (λ kept. HasState stored kept.state) → IfOk r (λ kept. IsLeft stored kept.stored desk new ⊎ IsTurned tells seen stored kept.stored desk new)
    → IfOk r (λ kept. kept.spent ≡ false) → IfOk r (λ kept. (kept.stored.bounds ≡ bounds) × (kept.spent ≡ false))
load_bounds tells seen bounds stored desk new (Ok kept) same has turned unspent = ((turned_rows kept.state has turned).2 ∙ same, unspent)
load_bounds tells seen bounds stored desk new (Err fault) same has turned unspent = tt

-- ---- what became of the folder

migrated_by : (s : State) (before new : Image) (mark : ℕ) (part : Part) (rows : ByteRows) → mark ≡ length (before Mark) → part ≡ slot_of mark → rows ≡ byte_rows_of kept_format s
    → new (other_slot mark) ≡ slot_bytes kept_format (compacted rows) ++ drop (compacted_size rows) (before (other_slot mark)) → new Mark ≡ before Mark ++ 0 ∷ [] → new part ≡ []
    → Stands kept_format new (compacted rows) → IsMigrated s before new
migrated_by s before new mark part rows e f same other longer cut stands = record {
  other = subst (λ (n : ℕ). new (other_slot n) ≡ slot_bytes kept_format (compacted (byte_rows_of kept_format s)) ++ drop (migrated_size s) (before (other_slot n))) e
      (subst (λ (r : ByteRows). new (other_slot mark) ≡ slot_bytes kept_format (compacted r) ++ drop (compacted_size r) (before (other_slot mark))) same other);
  mark = longer;
  cut = subst (λ (p : Part). new p ≡ []) (f ∙ ap slot_of e) cut;
  stands = subst (λ (r : ByteRows). Stands kept_format new (compacted r)) same stands;
}

is_migrated : (bounds : StoreBounds) (before mid new : Image) (stored : Stored) (s : State) → IsOpenedAs bounds before mid stored → stored.format ≡ One → HasState stored s
    → IsRewritten kept_format (narrow_rows stored) stored mid new → IsMigrated s before new
is_migrated bounds before mid new stored s o first has folder =
    let same = first_same bounds before mid stored o first in
    let here : IsRewritten kept_format (narrow_rows stored) stored before new = subst (λ (i : Image). IsRewritten kept_format (narrow_rows stored) stored i new) same folder in
    migrated_by s before new stored.mark stored.part (narrow_rows stored) (first_mark bounds before mid stored o first) o.kept.part (narrowed_are stored s first has)
    here.other here.mark here.cut here.stands

pub load_created : {D : Type 0} (tells : Bool) (seen : D → Seen) (bounds : StoreBounds) (before : Image) (stored : Stored) (desk new : D) (r : Result Controlled KeepFault)
    → (IsTrue tells → IsOpenedAs bounds before (seen desk).reads stored) → IfOk r (λ kept. HasState stored kept.state)
    → IfOk r (λ kept. IsLeft stored kept.stored desk new ⊎ IsTurned tells seen stored kept.stored desk new)
    → IfOk r (λ kept. IsTrue tells → Opens kept_format (length (before Mark)) before (seen new).reads ⊎ (Migrates bounds before kept.state × IsMigrated kept.state before (seen new).reads))
load_created tells seen bounds before stored desk new (Ok kept) opened has (inl left) = λ told.
    inl (subst (λ d. Opens kept_format (length (before Mark)) before (seen d).reads) (sym left.quiet) (opened told).opens)
load_created tells seen bounds before stored desk new (Ok kept) opened has (inr turned) = λ told.
    inr (
      migrates_of bounds before (seen desk).reads stored kept.state has turned.had (opened told),
      is_migrated bounds before (seen desk).reads (seen new).reads stored kept.state (opened told) turned.had.first has (turned.folder told),
    )
load_created tells seen bounds before stored desk new (Err fault) opened has turned = tt

-- ---- what was written

-- What load says of that.
abbrev pub QuietOrTurns : {D : Type 0} → Stored → Result Controlled KeepFault → (desk new : D) → Type 0
QuietOrTurns stored r desk new = (new ≡ desk) ⊎ ((s : State) × HasState stored s × MayMigrate r × HasRoomToTurn stored)

-- What holds where nothing was done holds, or the folder is migrated.
pub or_migrates : {D : Type 0} (X : D → Type 0) (tells : Bool) (bounds : StoreBounds) (before mid : Image) (stored : Stored) (desk new : D) (r : Result Controlled KeepFault) → X desk
    → (IsTrue tells → IsOpenedAs bounds before mid stored) → QuietOrTurns stored r desk new
    → X new ⊎ (MayMigrate r × (IsTrue tells → (s : State) × Migrates bounds before s))
or_migrates X tells bounds before mid stored desk new r x opened (inl same) = inl (subst X (sym same) x)
or_migrates X tells bounds before mid stored desk new r x opened (inr (s, has, may, turn)) = inr (may, λ told. (s, migrates_of bounds before mid stored s has turn (opened told)))

pub kept_or : {D : Type 0} {seen : D → Seen} {stopped : D → Stopped} (bounds : StoreBounds) (before mid : Image) (stored : Stored) (old desk new : D) (r : Result Controlled KeepFault)
    → OnlyReads seen stopped old desk → IsOpenedAs bounds before mid stored
    → Leaves seen stopped desk new (λ image. OpensTo stored.format image stored.rows ⊎ OpensTo kept_format image (narrow_rows stored)) → QuietOrTurns stored r desk new
    → OnlyReads seen stopped old new ⊎ ((s : State) × MigratesBy r bounds before s × Leaves seen stopped old new (λ image. (stopped old).images image ⊎ OpensToState image s))
kept_or {seen = seen} {stopped = stopped} bounds before mid stored old desk new r reads opened stops (inl same) = inl (subst (λ d. OnlyReads seen stopped old d) (sym same) reads)
kept_or {stopped = stopped} bounds before mid stored old desk new r reads opened stops (inr (s, has, may, turn)) = inr (
  s,
  (may, migrates_of bounds before mid stored s has turn opened),
  Leaves-then (λ image. (stopped old).images image ⊎ OpensToState image s) reads.stops stops (λ i p. inl p) (λ i o. inr (turned_opens stored s i has turn o)),
)

pub stops_or : {D : Type 0} {seen : D → Seen} {stopped : D → Stopped} (X : Image → Type 0) (bounds : StoreBounds) (before mid : Image) (stored : Stored) (old desk new : D) (r : Result Controlled KeepFault)
    → Leaves seen stopped old desk X → IsOpenedAs bounds before mid stored
    → Leaves seen stopped desk new (λ image. OpensTo stored.format image stored.rows ⊎ OpensTo kept_format image (narrow_rows stored)) → QuietOrTurns stored r desk new
    → Leaves seen stopped old new (λ image. X image ⊎ ((s : State) × MigratesBy r bounds before s × OpensToState image s))
stops_or {seen = seen} {stopped = stopped} X bounds before mid stored old desk new r first opened stops (inl same) =
    subst (λ d. Leaves seen stopped old d (λ image. X image ⊎ ((s : State) × MigratesBy r bounds before s × OpensToState image s))) (sym same) (Leaves-weaker _ first (λ i p. inl p))
stops_or X bounds before mid stored old desk new r first opened stops (inr (s, has, may, turn)) =
    Leaves-then (λ image. X image ⊎ ((u : State) × MigratesBy r bounds before u × OpensToState image u)) first stops (λ i p. inl p)
    (λ i o. inr (s, (may, migrates_of bounds before mid stored s has turn opened), turned_opens stored s i has turn o))

-- ---- how long the slots became

empty_most : (n : ℕ) → empty_size ≤ max empty_size n
empty_most n = omega arith

slot_most : (n m : ℕ) → n ≡ m → n ≤ max empty_size m
slot_most n m e = omega (arith, e)

pub room_opened : {D : Type 0} {tells : Bool} {seen : D → Seen} {stopped : D → Stopped} {old new : D} (bounds : StoreBounds) → HoldsRoom tells empty_size seen stopped old new
    → HoldsRoom tells (max empty_size bounds.slot) seen stopped old new
room_opened bounds held = held_within (max empty_size bounds.slot) (empty_most bounds.slot) held

pub room_loaded : {D : Type 0} {tells : Bool} {seen : D → Seen} {stopped : D → Stopped} {old desk new : D} (bounds : StoreBounds) (stored : Stored) → stored.bounds ≡ bounds
    → HoldsRoom tells empty_size seen stopped old desk → HoldsRoom tells stored.bounds.slot seen stopped desk new → HoldsRoom tells (max empty_size bounds.slot) seen stopped old new
room_loaded bounds stored same first second =
    held_then (room_opened bounds first) (held_within (max empty_size bounds.slot) (slot_most stored.bounds.slot bounds.slot (ap (λ (b : StoreBounds). b.slot) same)) second)

-- ---- the rows of a folder that was only looked at

pub peek_rows_open : (tells : Bool) (image : Image) (stored : Stored) (r : Result (Cored × Format × List Op) KeepFault) → (IsTrue tells → IsStoreOf image stored)
    → IfOk r (λ read. read.1 ≡ stored.format) → IfOk r (λ read. HasState stored read.0.state) → IfOk r (λ read. IsTrue tells → OpensTo read.1 image (byte_rows_of read.1 read.0.state))
peek_rows_open tells image stored (Ok read) opens same has = λ told.
    subst (λ (f : Format). OpensTo f image (byte_rows_of f read.0.state)) (sym same) (store_opens image stored read.0.state (opens told) has)
peek_rows_open tells image stored (Err fault) opens same has = tt
