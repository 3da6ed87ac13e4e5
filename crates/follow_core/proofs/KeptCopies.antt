-- What keeping a batch makes of a store is what following makes of the copy that the store is.
use Rattle.std.proofs.Common.{◌≡◌, ◌⊎◌, inl, inr, ℕ, ◌+◌, ◌==◌, ◌<◌, ◌≤◌, nat_lt, Bool, true, false, IsTrue, cond, not, ◌&&◌, List, [], ◌∷◌, ◌++◌, length, Option, None, Some, refl, sym, ap, ap₂, ◌∙◌, subst, append_assoc, arith}
use Rattle.std.specs.Prelude.{nat_le}
use Rattle.std.proofs.lemmas.Bool.{lt-ltb, le-ltb, le-leb, leb-true}
use Rattle.ziti_outside.specs.Images.{Image}
use Rattle.ctrl_model.specs.declared.formats.Format.TheVariants.{Two}
use Rattle.ctrl_model.specs.State.{State}
use Rattle.ship_frames.specs.declared.shipments.Shipment.{Shipment}
use Rattle.ship_frames.specs.declared.shipments.Sort.{Sort}
use Rattle.ship_frames.specs.declared.shipments.Sort.TheVariants.{Whole, Next}
use Rattle.ship_frames.specs.GatheredPieces.{Parts}
use Rattle.journal_core.specs.Slots.{records_of, slot_end}
use Rattle.journal_core.proofs.SlotLaws.{end-push}
use Rattle.slot_files.specs.FolderImage.{Stands}
use Rattle.row_codec.specs.declared.changes.Op.{Op}
use Rattle.row_codec.specs.RowDifference.{IsTrueDifference}
use Rattle.row_codec.specs.Batches.{bytes_cmp, entries_of, batch_bytes, Spells}
use Rattle.slot_reading.specs.BatchRows.{ByteRows, Give, rows_after}
use Rattle.row_store.specs.declared.bounds.StoreBounds.{StoreBounds}
use Rattle.row_store.specs.Faults.{NothingDone}
use Rattle.row_store.specs.RewrittenStores.{compacted_size, rewritten_of}
use Rattle.row_store.specs.StoredRows.{Stored, size_with, with_ops}
use Rattle.row_store.proofs.ReplacedLaws.{replaced_size}
use Rattle.follow_core.specs.declared.taken.Taken.{Taken}
use Rattle.follow_core.specs.declared.taken.Taken.TheVariants as takens
use Rattle.follow_core.specs.Following.{Copy, is_whole, rows_before, rows_behind, records_behind, is_rewritten, copy_behind, fills_slot, fills_mark, received}
use Rattle.follow_core.specs.Steps.{is_begun, is_replaced, rows_under, size_behind, stored_behind, kept_behind, HasRoomFor, KeepsSo}
use Rattle.follow_core.specs.TakenFrames.{copy_in, copy_behind_batch, IsReceived}
use Rattle.follow_core.proofs.DecidedBatches.{IsCopyOf, replaced_same, under_same, none_given, kept_or_full, if_true, if_false}

-- ---- the records and the slot behind a batch

-- The records behind a batch.
pub records_same : (s : Shipment) (ops : List Op) (records : List (List ℕ)) (stored : Stored) (parts : Option Parts) → IsCopyOf records stored → Spells s.bytes ops
    → records_behind s (copy_in records stored parts) ≡ kept_behind s.sort ops stored records
records_same s ops records stored parts k spells = by s.sort (is_begun stored) refl
  where
    bytes : s.bytes ≡ batch_bytes ops
    bytes = spells.spelled

    by : (sort : Sort) (b : Bool) → is_begun stored ≡ b → cond (is_whole sort) (s.bytes ∷ []) (records ++ s.bytes ∷ []) ≡ cond (is_whole sort && b) (batch_bytes ops ∷ []) (records ++ batch_bytes ops ∷ [])
    by Whole true e = ap (λ (l : List ℕ). l ∷ []) bytes
    by Whole false e =
        ap (λ (l : List ℕ). l ∷ []) bytes ∙ ap (λ (r : List (List ℕ)). r ++ batch_bytes ops ∷ []) (sym (none_given records stored k e).0)
    by Next b e = ap (λ (l : List ℕ). records ++ l ∷ []) bytes

-- The bytes of its slot.
size_same : (s : Shipment) (ops : List Op) (records : List (List ℕ)) (stored : Stored) → IsCopyOf records stored
    → (is_replaced s.sort stored ≡ true → IsTrueDifference bytes_cmp [] (entries_of ops))
    → slot_end (kept_behind s.sort ops stored records) + 1 ≡ size_behind s.sort ops stored
size_same s ops records stored k changes = by (is_replaced s.sort stored) refl
  where
    by : (b : Bool) → is_replaced s.sort stored ≡ b → slot_end (cond b (batch_bytes ops ∷ []) (records ++ batch_bytes ops ∷ [])) + 1 ≡ cond b (compacted_size (rows_after [] ops)) (size_with stored ops)
    by true e =
        let end = end-push (batch_bytes ops) [] in
        let size = replaced_size ops (changes e) in
        omega (arith, end, size)
    by false e =
        let end = end-push (batch_bytes ops) records in
        let here = k.end in
        omega (arith, end, here)

-- Whether the slot would be too long is whether the batch has no room.
pub full_same : (s : Shipment) (ops : List Op) (records : List (List ℕ)) (stored : Stored) (parts : Option Parts) → IsCopyOf records stored → Spells s.bytes ops
    → (is_replaced s.sort stored ≡ true → IsTrueDifference bytes_cmp [] (entries_of ops))
    → fills_slot stored.bounds s (copy_in records stored parts) ≡ nat_lt stored.bounds.slot (size_behind s.sort ops stored)
full_same s ops records stored parts k spells changes =
    ap (λ (l : List (List ℕ)). nat_lt stored.bounds.slot (slot_end l + 1)) (records_same s ops records stored parts k spells)
    ∙ ap (λ (n : ℕ). nat_lt stored.bounds.slot n) (size_same s ops records stored k changes)

pub mark_same : (s : Shipment) (records : List (List ℕ)) (stored : Stored) (parts : Option Parts) → IsCopyOf records stored
    → fills_mark stored.bounds s (copy_in records stored parts) ≡ is_replaced s.sort stored && nat_le stored.bounds.mark stored.mark
mark_same s records stored parts k = ap (λ (b : Bool). b && nat_le stored.bounds.mark stored.mark) (replaced_same s.sort records stored parts k)

-- ---- the copy behind a batch

copy_with : (records : List (List ℕ)) (rows these : ByteRows) (mark that : ℕ) (parts : Option Parts) → rows ≡ these → mark ≡ that
    → ◌≡◌ {A = Copy} (record { records = records; rows = rows; mark = mark; parts = parts }) (record { records = records; rows = these; mark = that; parts = parts })
copy_with records rows these mark that parts e f = λ i. record { records = records; rows = e i; mark = f i; parts = parts }

pub stored_rows : (sort : Sort) (ops : List Op) (stored : Stored) → (stored_behind sort ops stored).rows ≡ rows_after (rows_under sort stored) ops
stored_rows sort ops stored = by (is_replaced sort stored)
  where
    by : (b : Bool) → (cond b (rewritten_of Two (rows_after [] ops) stored) (with_ops stored ops)).rows ≡ rows_after (cond b [] stored.rows) ops
    by true = refl
    by false = refl

stored_mark : (sort : Sort) (ops : List Op) (stored : Stored) → (stored_behind sort ops stored).mark ≡ cond (is_replaced sort stored) (stored.mark + 1) stored.mark
stored_mark sort ops stored = by (is_replaced sort stored)
  where
    by : (b : Bool) → (cond b (rewritten_of Two (rows_after [] ops) stored) (with_ops stored ops)).mark ≡ cond b (stored.mark + 1) stored.mark
    by true = refl
    by false = refl

pub rows_same : (s : Shipment) (ops : List Op) (records : List (List ℕ)) (stored : Stored) (parts : Option Parts) → IsCopyOf records stored
    → (copy_behind s ops (copy_in records stored parts)).rows ≡ rows_after (rows_under s.sort stored) ops
rows_same s ops records stored parts k = ap (λ (rows : ByteRows). rows_after rows ops) (under_same s.sort records stored parts k)

-- The store behind a batch is the copy behind it.
pub copy_same : (s : Shipment) (ops : List Op) (records : List (List ℕ)) (stored new : Stored) (parts : Option Parts) → IsCopyOf records stored → new ≡ stored_behind s.sort ops stored
    → copy_in (copy_behind s ops (copy_in records stored parts)).records new parts ≡ copy_behind s ops (copy_in records stored parts)
copy_same s ops records stored new parts k e =
    copy_with (records_behind s (copy_in records stored parts)) new.rows (rows_behind s.sort ops (copy_in records stored parts)) new.mark
    (cond (is_rewritten s.sort (copy_in records stored parts)) (stored.mark + 1) stored.mark) parts
    (ap (λ (n : Stored). n.rows) e ∙ stored_rows s.sort ops stored ∙ sym (rows_same s ops records stored parts k))
    (ap (λ (n : Stored). n.mark) e ∙ stored_mark s.sort ops stored ∙ ap (λ (b : Bool). cond b (stored.mark + 1) stored.mark) (sym (replaced_same s.sort records stored parts k)))

-- ---- what becomes of it

less_not : (most mark : ℕ) → mark < most → nat_le most mark ≡ false
less_not most mark less = by (nat_le most mark) refl
  where
    by : (t : Bool) → nat_le most mark ≡ t → nat_le most mark ≡ false
    by true f = let upto = leb-true most mark f in absurd (omega (arith, upto, less))
    by false f = f

-- A batch for which there is room is taken.
pub room_takes : (s : Shipment) (ops : List Op) (records : List (List ℕ)) (stored : Stored) (parts : Option Parts) → IsCopyOf records stored → Spells s.bytes ops
    → (is_replaced s.sort stored ≡ true → IsTrueDifference bytes_cmp [] (entries_of ops)) → HasRoomFor s.sort ops stored
    → kept_or_full stored.bounds s ops (copy_in records stored parts) ≡ (takens.Took, copy_behind s ops (copy_in records stored parts))
room_takes s ops records stored parts k spells changes room =
    if_false (fills_slot stored.bounds s (copy_in records stored parts)) _ _
    (full_same s ops records stored parts k spells changes ∙ le-ltb stored.bounds.slot (size_behind s.sort ops stored) room.slot)
    ∙ if_false (fills_mark stored.bounds s (copy_in records stored parts)) _ _ (mark_same s records stored parts k ∙ marks (is_replaced s.sort stored) refl)
  where
    marks : (b : Bool) → is_replaced s.sort stored ≡ b → b && nat_le stored.bounds.mark stored.mark ≡ false
    marks true e = less_not stored.bounds.mark stored.mark (room.mark e)
    marks false e = refl

-- One that would pass the slot's bound is not.
pub slot_refuses : (s : Shipment) (ops : List Op) (records : List (List ℕ)) (stored : Stored) (parts : Option Parts) → IsCopyOf records stored → Spells s.bytes ops
    → (is_replaced s.sort stored ≡ true → IsTrueDifference bytes_cmp [] (entries_of ops)) → stored.bounds.slot < size_behind s.sort ops stored
    → kept_or_full stored.bounds s ops (copy_in records stored parts) ≡ (takens.Full, copy_in records stored parts)
slot_refuses s ops records stored parts k spells changes more =
    if_true (fills_slot stored.bounds s (copy_in records stored parts)) _ _
    (full_same s ops records stored parts k spells changes ∙ lt-ltb stored.bounds.slot (size_behind s.sort ops stored) more)

-- Nor is one for which the mark has no room.
pub mark_refuses : (s : Shipment) (ops : List Op) (records : List (List ℕ)) (stored : Stored) (parts : Option Parts) → IsCopyOf records stored → Spells s.bytes ops
    → (is_replaced s.sort stored ≡ true → IsTrueDifference bytes_cmp [] (entries_of ops)) → is_replaced s.sort stored ≡ true → size_behind s.sort ops stored ≤ stored.bounds.slot
    → stored.bounds.mark ≤ stored.mark → kept_or_full stored.bounds s ops (copy_in records stored parts) ≡ (takens.MarkFull, copy_in records stored parts)
mark_refuses s ops records stored parts k spells changes replaced fits full =
    if_false (fills_slot stored.bounds s (copy_in records stored parts)) _ _
    (full_same s ops records stored parts k spells changes ∙ le-ltb stored.bounds.slot (size_behind s.sort ops stored) fits)
    ∙ if_true (fills_mark stored.bounds s (copy_in records stored parts)) _ _
    (mark_same s records stored parts k ∙ ap (λ (b : Bool). b && nat_le stored.bounds.mark stored.mark) replaced ∙ le-leb stored.bounds.mark stored.mark full)
