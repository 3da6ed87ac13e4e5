-- How a folder follows its machine through a step that changes nothing, that keeps a batch, and that compacts.
use Rattle.std.specs.Prelude.{⊤, OnOk}
use Rattle.std.proofs.Common.{◌≡◌, ◌⊎◌, inl, inr, ℕ, ◌+◌, ◌==◌, Bool, true, false, List, [], ◌∷◌, ◌++◌, length, Ok, Err, refl, sym, ap, ◌∙◌, subst, arith}
use Rattle.std.specs.declared.result.Result.{Result}
use Rattle.std.proofs.lemmas.Bool.Decides.{nat_tests}
use Rattle.ziti_outside.specs.Images.{Image}
use Rattle.ziti_outside.specs.Views.{Seen}
use Rattle.slot_files.specs.FolderImage.{Stands}
use Rattle.ctrl_model.specs.State.{State}
use Rattle.row_codec.specs.declared.changes.Op.{Op}
use Rattle.row_codec.specs.Batches.{batch_between, batch_bytes}
use Rattle.row_store.specs.declared.faults.StoreFault.{StoreFault}
use Rattle.row_store.specs.declared.faults.StoreFault.TheVariants as store_fault
use Rattle.row_store.specs.AddedBatches.{AddsBatch}
use Rattle.slot_reading.specs.BatchRows.{ByteRows}
use Rattle.row_store.specs.StoredRows.{Stored, with_ops}
use Rattle.row_store.specs.RewrittenStores.{compacted, IsRewritten}
use Rattle.ctrl_core.specs.KeptState.{Cored}
use Rattle.ctrl_keep.specs.declared.faults.KeepFault.{KeepFault}
use Rattle.row_store.specs.OpenedStates.{byte_rows_of}
use Rattle.ctrl_core.specs.KeptFormat.{kept_format}
use Rattle.ctrl_keep.specs.KeptMachine.{Machine}
use Rattle.ctrl_keep.specs.KeptBatches.{end_at, mark_at, batches_next, GoesOnBehind, Follows}
use Rattle.ctrl_keep.specs.KeptController.{Controlled, machine_with, machine_of}
use Rattle.ctrl_keep.specs.CompactionReplies.{compaction_reply}
use Rattle.ctrl_keep.proofs.CompactedStates.{CameTo, compacted_of}

equal : (n : ℕ) → (n == n) ≡ true
equal n = grind (arith, nat_tests)

further : (n more : ℕ) → (n + 5 + more == n) ≡ false
further n more = grind (arith, nat_tests)

one_more : (n : ℕ) → (n + 1 == n) ≡ false
one_more n = grind (arith, nat_tests)

-- ---- nothing changes

-- A step that leaves the machine adds no batch.
pub batches_still : (m : Machine) (batches : List (List ℕ)) → batches_next m m batches ≡ batches
batches_still m batches = rw (equal (mark_at m.place), equal (end_at m.place)) refl

pub follows_still : (old new : Machine) (before now : Image) → new ≡ old → now ≡ before → Follows old new before now
follows_still old new before now e f =
    subst (λ (m : Machine). Follows old m before now) (sym e)
    (subst (λ (i : Image). Follows old old before i) (sym f)
    (record { on = inl refl; still = λ _. refl; stands = λ batches s. subst (Stands kept_format before) (sym (batches_still old batches)) s; adds = λ _ past. absurd (omega arith) }))

-- ---- a batch is kept

-- The gate has moved on.
pub gate_moved : (s t : State) (ops : List Op) (stored later : Stored) → later ≡ with_ops stored ops → machine_with t later ≡ machine_with s stored → ⊥
gate_moved s t ops stored later e f =
    let ends : stored.end + 5 + length (batch_bytes ops) ≡ stored.end = sym (ap (λ (l : Stored). l.end) e) ∙ ap (λ (m : Machine). end_at m.place) f in
    absurd (omega (arith, ends))

pub follows_kept : (s t : State) (ops : List Op) (stored later : Stored) (before now : Image) → ops ≡ batch_between kept_format s t → later ≡ with_ops stored ops → AddsBatch ops before now
    → Follows (machine_with s stored) (machine_with t later) before now
follows_kept s t ops stored later before now e f adds = record {
  on = subst (λ (l : Stored). Moved l) (sym f) (inr (inr (refl, omega arith)));
  still = λ same. absurd (gate_moved s t ops stored later f same);
  stands = λ batches b.
      subst (λ (l : Stored). Stands kept_format now (batches_next (machine_with s stored) (machine_with t l) batches)) (sym f)
      (rw (equal stored.mark, further stored.end (length (batch_bytes ops))) (subst (λ (o : List Op). Stands kept_format now (batches ++ batch_bytes o ∷ [])) e (adds.behind kept_format batches b)));
  adds = λ _ _. subst (λ (o : List Op). AddsBatch o before now) e adds;
}
  where
    Moved : Stored → Type 0
    Moved l = (machine_with t l ≡ machine_with s stored) ⊎ GoesOnBehind (machine_with s stored) (machine_with t l)

-- ---- the folder is compacted

-- The mark has a byte more.
pub mark_moved : (s : State) (stored later : Stored) → later ≡ compacted_of stored → machine_with s later ≡ machine_with s stored → ⊥
mark_moved s stored later e f =
    let marks : stored.mark + 1 ≡ stored.mark = sym (ap (λ (l : Stored). l.mark) e) ∙ ap (λ (m : Machine). mark_at m.place) f in
    absurd (omega (arith, marks))

pub follows_compacted : (s : State) (stored later : Stored) (before now : Image) → stored.rows ≡ byte_rows_of kept_format s → later ≡ compacted_of stored → IsRewritten kept_format stored.rows stored before now
    → Follows (machine_with s stored) (machine_with s later) before now
follows_compacted s stored later before now rows e folder = record {
  on = subst (λ (l : Stored). Moved l) (sym e) (inr (inl (omega arith)));
  still = λ same. absurd (mark_moved s stored later e same);
  stands = λ batches b.
      subst (λ (l : Stored). Stands kept_format now (batches_next (machine_with s stored) (machine_with s l) batches)) (sym e)
      (rw (one_more stored.mark) (subst (λ (r : ByteRows). Stands kept_format now (compacted r)) rows folder.stands));
  adds = λ same _. let marks : stored.mark + 1 ≡ stored.mark = sym (ap (λ (l : Stored). l.mark) e) ∙ same in absurd (omega (arith, marks));
}
  where
    Moved : Stored → Type 0
    Moved l = (machine_with s l ≡ machine_with s stored) ⊎ GoesOnBehind (machine_with s stored) (machine_with s l)

-- ---- what came of compacting a store

-- Where the machine is as it was nothing was done.
pub came_still : {D : Type 0} (core : Cored) (old new : Stored) (desk later : D) (r : Result ⊤ StoreFault) → CameTo core old new desk later r
    → OnOk (compaction_reply r) (machine_with core.state new ≡ machine_with core.state old → later ≡ desk)
came_still core old new desk later (Ok x) c = λ same. absurd (mark_moved core.state old new c.done.1 same)
came_still core old new desk later (Err store_fault.Disk) c = tt
came_still core old new desk later (Err store_fault.Full) c = λ _. c.fault.2.1
came_still core old new desk later (Err (store_fault.Damaged part at)) c = tt
came_still core old new desk later (Err store_fault.MarkFull) c = λ _. c.fault.3.1
came_still core old new desk later (Err store_fault.Spent) c = tt
came_still core old new desk later (Err store_fault.NoMemory) c = tt

-- The folder follows the machine.
pub came_follows : {D : Type 0} (seen : D → Seen) (tells : Type 0) (core : Cored) (old new : Stored) (desk later : D) (r : Result ⊤ StoreFault) → CameTo core old new desk later r
    → OnOk r (tells → IsRewritten kept_format old.rows old (seen desk).reads (seen later).reads)
    → OnOk (compaction_reply r) (tells → Follows (machine_with core.state old) (machine_with core.state new) (seen desk).reads (seen later).reads)
came_follows seen tells core old new desk later (Ok x) c folder = λ told. follows_compacted core.state old new (seen desk).reads (seen later).reads c.keeps.rows c.done.1 (folder told)
came_follows seen tells core old new desk later (Err store_fault.Disk) c folder = tt
came_follows seen tells core old new desk later (Err store_fault.Full) c folder = λ told.
    follows_still _ _ (seen desk).reads (seen later).reads (ap (machine_with core.state) c.fault.2.0) (ap (λ d. (seen d).reads) c.fault.2.1)
came_follows seen tells core old new desk later (Err (store_fault.Damaged part at)) c folder = tt
came_follows seen tells core old new desk later (Err store_fault.MarkFull) c folder = λ told.
    follows_still _ _ (seen desk).reads (seen later).reads (ap (machine_with core.state) c.fault.3.0) (ap (λ d. (seen d).reads) c.fault.3.1)
came_follows seen tells core old new desk later (Err store_fault.Spent) c folder = tt
came_follows seen tells core old new desk later (Err store_fault.NoMemory) c folder = tt

-- ---- the whole controller

pub still_of_all : {T : Type 0} (r : Result T KeepFault) (old : Controlled) (core : Cored) (stored : Stored) (spent : Bool) (m : Machine) (A : Type 0)
    → record { state = core.state; stored = stored; spent = spent } ≡ old → OnOk r (m ≡ machine_with core.state stored → A) → OnOk r (m ≡ machine_of old → A)
still_of_all r old core stored spent m A view still = subst (λ (k : Controlled). OnOk r (m ≡ machine_of k → A)) view still

pub follows_of_all : {T : Type 0} (r : Result T KeepFault) (old : Controlled) (core : Cored) (stored : Stored) (spent : Bool) (m : Machine) (tells : Type 0) (before now : Image)
    → record { state = core.state; stored = stored; spent = spent } ≡ old → OnOk r (tells → Follows (machine_with core.state stored) m before now)
    → OnOk r (tells → Follows (machine_of old) m before now)
follows_of_all r old core stored spent m tells before now view follows = subst (λ (k : Controlled). OnOk r (tells → Follows (machine_of k) m before now)) view follows
