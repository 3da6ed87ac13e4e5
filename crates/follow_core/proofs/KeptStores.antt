-- What a store answered to a batch that was to be kept, as following has it.
use Rattle.std.proofs.Common.{◌≡◌, ◌⊎◌, inl, inr, ℕ, ◌+◌, ◌<◌, ◌≤◌, Bool, true, false, cond, List, [], ◌∷◌, ◌++◌, length, refl, sym, ap, ◌∙◌, subst, true≢false}
use Rattle.ziti_outside.specs.Images.{Image}
use Rattle.ctrl_model.specs.declared.formats.Format.{Format}
use Rattle.ctrl_model.specs.declared.formats.Format.TheVariants.{Two}
use Rattle.ship_frames.specs.declared.shipments.Sort.{Sort}
use Rattle.slot_files.specs.FolderImage.{Stands}
use Rattle.row_codec.specs.declared.changes.Op.{Op}
use Rattle.row_codec.specs.RowDifference.{IsTrueDifference}
use Rattle.row_codec.specs.Batches.{bytes_cmp, entries_of, batch_bytes}
use Rattle.slot_reading.specs.BatchRows.{ByteRows, rows_after}
use Rattle.row_store.specs.AddedBatches.{AddsBatch}
use Rattle.row_store.specs.Faults.{CommitFails, NothingDone}
use Rattle.row_store.specs.OpenedRows.{OpensTo}
use Rattle.row_store.specs.RewrittenStores.{compacted, compacted_size, rewritten_of, HasRoom, IsRewritten, RewriteFails}
use Rattle.row_store.specs.StoredRows.{Stored, size_with, spent_of, spent_with, with_ops}
use Rattle.row_store.proofs.ReplacedLaws.{replaced_batches}
use Rattle.row_store.specs.declared.faults.StoreFault.{StoreFault}
use Rattle.row_store.specs.declared.faults.StoreFault.TheVariants as store
use Rattle.follow_core.specs.declared.taken.Taken.TheVariants as takens
use Rattle.follow_core.specs.declared.faults.FollowFault.TheVariants.{Disk, NoMemory}
use Rattle.follow_core.specs.Steps.{is_replaced, rows_under, size_behind, stored_behind, kept_behind, HasRoomFor, KeepsSo, KeepsNot}

-- ---- a batch that is added

room_added : (sort : Sort) (ops : List Op) (old : Stored) → is_replaced sort old ≡ false → size_with old ops ≤ old.bounds.slot → HasRoomFor sort ops old
room_added sort ops old e fits = record {
  slot = subst (λ (b : Bool). cond b (compacted_size (rows_after [] ops)) (size_with old ops) ≤ old.bounds.slot) (sym e) fits;
  mark = λ f. absurd (true≢false (sym f ∙ e));
}

pub added_took : {D : Type 0} (sort : Sort) (ops : List Op) (old new : Stored) (desk later : D) → is_replaced sort old ≡ false → size_with old ops ≤ old.bounds.slot → new ≡ with_ops old ops
    → KeepsSo sort ops old new desk later takens.Took
added_took sort ops old new desk later e fits is =
    (room_added sort ops old e fits, is ∙ ap (λ (b : Bool). cond b (rewritten_of Two (rows_after [] ops) old) (with_ops old ops)) (sym e))

pub added_full : {D : Type 0} (sort : Sort) (ops : List Op) (old new : Stored) (desk later : D) → is_replaced sort old ≡ false → old.bounds.slot < size_with old ops → NothingDone old new desk later
    → KeepsSo sort ops old new desk later takens.Full
added_full sort ops old new desk later e more none =
    (subst (λ (b : Bool). old.bounds.slot < cond b (compacted_size (rows_after [] ops)) (size_with old ops)) (sym e) more, none)

pub added_disk : {D : Type 0} (sort : Sort) (ops : List Op) (old new : Stored) (desk later : D) → is_replaced sort old ≡ false → CommitFails ops old new desk later store.Disk
    → KeepsNot sort ops old new desk later Disk
added_disk sort ops old new desk later e f =
    (room_added sort ops old e f.0.1, ap (λ (n : Stored). n.spent) f.1, ap (λ (n : Stored). n.rows) f.1)

pub added_memory : {D : Type 0} (sort : Sort) (ops : List Op) (old new : Stored) (desk later : D) → is_replaced sort old ≡ false → CommitFails ops old new desk later store.NoMemory
    → KeepsNot sort ops old new desk later NoMemory
added_memory sort ops old new desk later e f = (room_added sort ops old e f.0.1, by f.1)
  where
    by : NothingDone old new desk later ⊎ (new ≡ spent_with old new.rows) → NothingDone old new desk later ⊎ (new.spent ≡ true)
    by (inl none) = inl none
    by (inr spent) = inr (ap (λ (n : Stored). n.spent) spent)

-- No other fault comes.
pub added_only : {D : Type 0} (ops : List Op) (old new : Stored) (desk later : D) (fault : StoreFault) → old.spent ≡ false → CommitFails ops old new desk later fault
    → (fault ≡ store.Disk → ⊥) → (fault ≡ store.Full → ⊥) → (fault ≡ store.NoMemory → ⊥) → ⊥
added_only ops old new desk later store.Disk fresh f d l m = d refl
added_only ops old new desk later store.Full fresh f d l m = l refl
added_only ops old new desk later (store.Damaged part at) fresh f d l m = f
added_only ops old new desk later store.MarkFull fresh f d l m = f
added_only ops old new desk later store.Spent fresh f d l m = true≢false (sym f.0 ∙ fresh)
added_only ops old new desk later store.NoMemory fresh f d l m = m refl

-- ---- a batch that takes the place of records

room_replaced : (sort : Sort) (ops : List Op) (old : Stored) → is_replaced sort old ≡ true → HasRoom (compacted_size (rows_after [] ops)) old → HasRoomFor sort ops old
room_replaced sort ops old e room = record {
  slot = subst (λ (b : Bool). cond b (compacted_size (rows_after [] ops)) (size_with old ops) ≤ old.bounds.slot) (sym e) room.0;
  mark = λ f. room.1;
}

pub replaced_took : {D : Type 0} (sort : Sort) (ops : List Op) (old new : Stored) (desk later : D) → is_replaced sort old ≡ true → HasRoom (compacted_size (rows_after [] ops)) old
    → new ≡ rewritten_of Two (rows_after [] ops) old → KeepsSo sort ops old new desk later takens.Took
replaced_took sort ops old new desk later e room is =
    (room_replaced sort ops old e room, is ∙ ap (λ (b : Bool). cond b (rewritten_of Two (rows_after [] ops) old) (with_ops old ops)) (sym e))

pub replaced_full : {D : Type 0} (sort : Sort) (ops : List Op) (old new : Stored) (desk later : D) → is_replaced sort old ≡ true
    → RewriteFails (compacted_size (rows_after [] ops)) old new desk later store.Full → KeepsSo sort ops old new desk later takens.Full
replaced_full sort ops old new desk later e f =
    (subst (λ (b : Bool). old.bounds.slot < cond b (compacted_size (rows_after [] ops)) (size_with old ops)) (sym e) f.1, f.2)

pub replaced_mark : {D : Type 0} (sort : Sort) (ops : List Op) (old new : Stored) (desk later : D) → is_replaced sort old ≡ true
    → RewriteFails (compacted_size (rows_after [] ops)) old new desk later store.MarkFull → KeepsSo sort ops old new desk later takens.MarkFull
replaced_mark sort ops old new desk later e f =
    (e, subst (λ (b : Bool). cond b (compacted_size (rows_after [] ops)) (size_with old ops) ≤ old.bounds.slot) (sym e) f.1, f.2, f.3)

pub replaced_disk : {D : Type 0} (sort : Sort) (ops : List Op) (old new : Stored) (desk later : D) → is_replaced sort old ≡ true
    → RewriteFails (compacted_size (rows_after [] ops)) old new desk later store.Disk → KeepsNot sort ops old new desk later Disk
replaced_disk sort ops old new desk later e f =
    (room_replaced sort ops old e f.0.1, ap (λ (n : Stored). n.spent) f.1, ap (λ (n : Stored). n.rows) f.1)

pub replaced_memory : {D : Type 0} (sort : Sort) (ops : List Op) (old new : Stored) (desk later : D) → is_replaced sort old ≡ true
    → RewriteFails (compacted_size (rows_after [] ops)) old new desk later store.NoMemory → KeepsNot sort ops old new desk later NoMemory
replaced_memory sort ops old new desk later e f = (room_replaced sort ops old e f.0.1, inl f.1)

pub replaced_only : {D : Type 0} (size : ℕ) (old new : Stored) (desk later : D) (fault : StoreFault) → old.spent ≡ false → RewriteFails size old new desk later fault
    → (fault ≡ store.Disk → ⊥) → (fault ≡ store.Full → ⊥) → (fault ≡ store.MarkFull → ⊥) → (fault ≡ store.NoMemory → ⊥) → ⊥
replaced_only size old new desk later store.Disk fresh f d l k m = d refl
replaced_only size old new desk later store.Full fresh f d l k m = l refl
replaced_only size old new desk later (store.Damaged part at) fresh f d l k m = f
replaced_only size old new desk later store.MarkFull fresh f d l k m = k refl
replaced_only size old new desk later store.Spent fresh f d l k m = true≢false (sym f.0 ∙ fresh)
replaced_only size old new desk later store.NoMemory fresh f d l k m = m refl

-- ---- the folder

pub added_stands : (sort : Sort) (ops : List Op) (stored : Stored) (old new : Image) (records : List (List ℕ)) → is_replaced sort stored ≡ false → AddsBatch ops old new → Stands Two old records
    → Stands Two new (kept_behind sort ops stored records)
added_stands sort ops stored old new records e adds stands =
    subst (λ (b : Bool). Stands Two new (cond b (batch_bytes ops ∷ []) (records ++ batch_bytes ops ∷ []))) (sym e) (adds.behind Two records stands)

pub replaced_stands : (sort : Sort) (ops : List Op) (stored : Stored) (old new : Image) (records : List (List ℕ)) → is_replaced sort stored ≡ true → IsTrueDifference bytes_cmp [] (entries_of ops)
    → IsRewritten Two (rows_after [] ops) stored old new → Stands Two new (kept_behind sort ops stored records)
replaced_stands sort ops stored old new records e changes written =
    subst (λ (b : Bool). Stands Two new (cond b (batch_bytes ops ∷ []) (records ++ batch_bytes ops ∷ []))) (sym e)
    (subst (Stands Two new) (replaced_batches ops changes) written.stands)

-- ---- stops

pub under_added : (sort : Sort) (ops : List Op) (stored : Stored) → is_replaced sort stored ≡ false → rows_after stored.rows ops ≡ rows_after (rows_under sort stored) ops
under_added sort ops stored e = ap (λ (b : Bool). rows_after (cond b [] stored.rows) ops) (sym e)

pub under_replaced : (sort : Sort) (ops : List Op) (stored : Stored) → is_replaced sort stored ≡ true → rows_after [] ops ≡ rows_after (rows_under sort stored) ops
under_replaced sort ops stored e = ap (λ (b : Bool). rows_after (cond b [] stored.rows) ops) (sym e)

pub either_as : (f : Format) (image : Image) (rows these those : ByteRows) → f ≡ Two → these ≡ those → OpensTo f image rows ⊎ OpensTo f image these → OpensTo Two image rows ⊎ OpensTo Two image those
either_as f image rows these those e g (inl p) = inl (subst (λ (h : Format). OpensTo h image rows) e p)
either_as f image rows these those e g (inr p) = inr (subst (λ (r : ByteRows). OpensTo Two image r) g (subst (λ (h : Format). OpensTo h image these) e p))

pub either_replaced : (f : Format) (image : Image) (rows these those : ByteRows) → f ≡ Two → these ≡ those → OpensTo f image rows ⊎ OpensTo Two image these → OpensTo Two image rows ⊎ OpensTo Two image those
either_replaced f image rows these those e g (inl p) = inl (subst (λ (h : Format). OpensTo h image rows) e p)
either_replaced f image rows these those e g (inr p) = inr (subst (λ (r : ByteRows). OpensTo Two image r) g p)
