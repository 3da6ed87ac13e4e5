-- Whether a batch leads on from a store, by what was found of it.
use Rattle.std.proofs.Common.{◌≡◌, ℕ, ◌==◌, ◌≤◌, nat_lt, Bool, true, false, cond, not, ◌&&◌, List, [], Option, refl, sym, ap, ◌∙◌, subst, true≢false}
use Rattle.std.specs.Prelude.{nat_le}
use Rattle.std.specs.Option.{option_map_or}
use Rattle.std.proofs.lemmas.Bool.{eq-eqb, and_parts, leb-true}
use Rattle.ship_frames.specs.declared.shipments.Shipment.{Shipment}
use Rattle.row_codec.specs.declared.changes.Op.{Op}
use Rattle.row_codec.specs.RowDifference.{IsTrueDifference}
use Rattle.row_codec.specs.Batches.{bytes_cmp, entries_of, IsBatch}
use Rattle.slot_reading.specs.BatchRows.{ByteRows, puts, rows_after, serial_of}
use Rattle.row_store.specs.StoredRows.{Stored}
use Rattle.row_store.proofs.ReplacedLaws.{puts_all}
use Rattle.follow_core.specs.BatchBytes.{is_true_difference}
use Rattle.follow_core.specs.Following.{is_whole, is_whole_of, is_no_whole}
use Rattle.follow_core.specs.FollowedCopies.{serial_in_store}
use Rattle.follow_core.specs.Steps.{is_begun, is_replaced, comes_late, AreOfSerial, LeadsOn}
use Rattle.follow_core.proofs.BatchWords.{passed_is_true}

not_false : (b : Bool) → not b ≡ false → b ≡ true
not_false true e = refl
not_false false e = absurd (true≢false e)

not_true : (b : Bool) → not b ≡ true → b ≡ false
not_true true e = absurd (true≢false (sym e))
not_true false e = refl

-- A Whole that is one puts what it leads to.
whole_puts : (s : Shipment) (ops : List Op) → IsBatch ops → is_whole s.sort ≡ true → is_no_whole s ops ≡ false → (is_true_difference [] ops ≡ true) × (ops ≡ puts (rows_after [] ops))
whole_puts s ops batch whole good =
    let is : not (is_whole_of s.serial ops) ≡ false = ap (λ (b : Bool). b && not (is_whole_of s.serial ops)) (sym whole) ∙ good in
    let parts = and_parts (is_true_difference [] ops) (option_map_or (λ n. n == s.serial) (serial_of (rows_after [] ops)) false) (not_false (is_whole_of s.serial ops) is) in
    (parts.0, puts_all ops (passed_is_true [] ops tt batch parts.0))

replaced_whole : (s : Shipment) (stored : Stored) → is_replaced s.sort stored ≡ true → is_whole s.sort ≡ true
replaced_whole s stored e = (and_parts (is_whole s.sort) (is_begun stored) e).0

pub replaced_on : (s : Shipment) (ops : List Op) (stored : Stored) (of : Bool) → IsBatch ops → is_replaced s.sort stored ≡ true → is_no_whole s ops ≡ false
    → (of ≡ true → (put : ByteRows) → ops ≡ puts put → AreOfSerial s.serial put) → not of ≡ false → LeadsOn s ops stored
replaced_on s ops stored of batch e good so n =
    let w = whole_puts s ops batch (replaced_whole s stored e) good in
    record {
      changes = subst (λ (b : Bool). is_true_difference (cond b [] stored.rows) ops ≡ true) (sym e) w.0;
      behind = subst (λ (b : Bool). AreOfSerial s.serial (rows_after (cond b [] stored.rows) ops)) (sym e) (so (not_false of n) (rows_after [] ops) w.1);
    }

pub replaced_nowhere : (s : Shipment) (ops : List Op) (stored : Stored) (of : Bool) → IsBatch ops → is_replaced s.sort stored ≡ true → is_no_whole s ops ≡ false
    → (of ≡ false → (put : ByteRows) → ops ≡ puts put → AreOfSerial s.serial put → ⊥) → not of ≡ true → LeadsOn s ops stored → ⊥
replaced_nowhere s ops stored of batch e good not_so n on =
    let w = whole_puts s ops batch (replaced_whole s stored e) good in
    not_so (not_true of n) (rows_after [] ops) w.1 (subst (λ (b : Bool). AreOfSerial s.serial (rows_after (cond b [] stored.rows) ops)) e on.behind)

pub added_unchanged : (s : Shipment) (ops : List Op) (stored : Stored) → is_replaced s.sort stored ≡ false → is_true_difference stored.rows ops ≡ false → LeadsOn s ops stored → ⊥
added_unchanged s ops stored e none on =
    true≢false (sym (subst (λ (b : Bool). is_true_difference (cond b [] stored.rows) ops ≡ true) e on.changes) ∙ none)

pub added_on : (s : Shipment) (ops rows : List Op) (stored : Stored) (of : Bool) → is_replaced s.sort stored ≡ false → is_true_difference stored.rows ops ≡ true → rows ≡ puts (rows_after stored.rows ops)
    → (of ≡ true → (put : ByteRows) → rows ≡ puts put → AreOfSerial s.serial put) → not of ≡ false → LeadsOn s ops stored
added_on s ops rows stored of e changes put so n = record {
  changes = subst (λ (b : Bool). is_true_difference (cond b [] stored.rows) ops ≡ true) (sym e) changes;
  behind = subst (λ (b : Bool). AreOfSerial s.serial (rows_after (cond b [] stored.rows) ops)) (sym e) (so (not_false of n) (rows_after stored.rows ops) put);
}

pub added_nowhere : (s : Shipment) (ops rows : List Op) (stored : Stored) (of : Bool) → is_replaced s.sort stored ≡ false → rows ≡ puts (rows_after stored.rows ops)
    → (of ≡ false → (put : ByteRows) → rows ≡ puts put → AreOfSerial s.serial put → ⊥) → not of ≡ true → LeadsOn s ops stored → ⊥
added_nowhere s ops rows stored of e put not_so n on =
    not_so (not_true of n) (rows_after stored.rows ops) put (subst (λ (b : Bool). AreOfSerial s.serial (rows_after (cond b [] stored.rows) ops)) e on.behind)

-- A batch that comes late comes where there is a record, and has no later serial than it.
pub late_begun : (s : Shipment) (stored : Stored) → comes_late s stored ≡ true → stored.end ≡ 8 → ⊥
late_begun s stored late e =
    let begun = (and_parts (is_begun stored) (nat_le s.serial (serial_in_store stored)) late).0 in
    true≢false (sym begun ∙ ap not (eq-eqb stored.end 8 e))

pub late_own : (s : Shipment) (stored : Stored) → comes_late s stored ≡ true → s.serial ≤ serial_in_store stored
late_own s stored late = leb-true s.serial (serial_in_store stored) (and_parts (is_begun stored) (nat_le s.serial (serial_in_store stored)) late).1
