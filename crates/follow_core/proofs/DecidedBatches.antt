-- What is decided of a batch beside a store is what following decides of it beside the copy that the store is.
use Rattle.std.proofs.Common.{◌≡◌, inl, inr, ℕ, ◌+◌, ◌==◌, ◌<◌, ◌≤◌, nat_lt, Bool, true, false, cond, not, ◌&&◌, ◌||◌, List, [], ◌∷◌, ◌++◌, length, Option, None, Some, refl, sym, ap, ap₂, ◌∙◌, subst, arith}
use Rattle.std.specs.Prelude.{nat_le}
use Rattle.std.specs.Option.{option_map_or, unwrap_or}
use Rattle.std.proofs.lemmas.Bool.{eq-eqb, eqb-true, lt-ltb, le-ltb, and_parts}
use Rattle.ctrl_model.specs.declared.formats.Format.TheVariants.{Two}
use Rattle.ship_frames.specs.declared.shipments.Shipment.{Shipment}
use Rattle.ship_frames.specs.declared.shipments.Sort.{Sort}
use Rattle.ship_frames.specs.declared.shipments.Sort.TheVariants.{Whole, Next}
use Rattle.ship_frames.specs.GatheredPieces.{Parts}
use Rattle.journal_core.specs.Slots.{records_of, slot_end}
use Rattle.journal_core.proofs.SlotLaws.{end-push}
use Rattle.row_codec.specs.declared.changes.Op.{Op}
use Rattle.row_codec.specs.RowDifference.{IsTrueDifference}
use Rattle.row_codec.specs.Batches.{bytes_cmp, entries_of, batch_bytes, Spells}
use Rattle.slot_reading.specs.BatchRows.{ByteRows, Give, rows_after, serial_of}
use Rattle.row_store.specs.declared.bounds.StoreBounds.{StoreBounds}
use Rattle.row_store.specs.RewrittenStores.{compacted_size, rewritten_of}
use Rattle.row_store.specs.StoredRows.{Stored, size_with, with_ops}
use Rattle.row_store.proofs.ReplacedLaws.{replaced_size}
use Rattle.follow_core.specs.declared.taken.Taken.{Taken}
use Rattle.follow_core.specs.declared.taken.Taken.TheVariants as takens
use Rattle.follow_core.specs.BatchBytes.{batch_in, is_true_difference}
use Rattle.follow_core.specs.Following.{Copy, is_whole, is_no_whole, is_past, is_ahead, beside, kept_of, own_serial, has_record, rows_before, rows_behind, records_behind, is_rewritten, copy_behind, are_of_serial, leads_nowhere, fills_slot, fills_mark, decided, received}
use Rattle.follow_core.specs.FollowedCopies.{serial_in_store}
use Rattle.follow_core.specs.Steps.{is_begun, is_replaced, rows_under, comes_late, comes_early, AreOfSerial, LeadsOn, AnswersSo, size_behind, stored_behind, kept_behind}
use Rattle.follow_core.specs.TakenFrames.{copy_in}
use Rattle.follow_core.proofs.BatchWords.{spelled_found}
use Rattle.follow_core.proofs.JudgedStates.{judged_so, judged_not, found_so}

-- A store is the copy of these records: they end at its gate, and give its rows.
pub record IsCopyOf (records : List (List ℕ)) (stored : Stored) : Type 0 where
  pub end : stored.end ≡ slot_end records
  pub give : Give Two records stored.rows

-- ---- the same tests

begun_same : (records : List (List ℕ)) (end : ℕ) → end ≡ slot_end records → nat_lt 0 (length records) ≡ not (end == 8)
begun_same [] end e = sym (ap not (eq-eqb end 8 e))
begun_same (bytes ∷ more) end e =
    lt-ltb 0 (length (bytes ∷ more)) (omega arith)
    ∙ sym (ap not (other (end == 8) refl))
  where
    other : (b : Bool) → (end == 8) ≡ b → (end == 8) ≡ false
    other true is = let same = eqb-true end 8 is in absurd (omega (arith, same, e))
    other false is = is

pub has_same : (records : List (List ℕ)) (stored : Stored) (parts : Option Parts) → IsCopyOf records stored → has_record (copy_in records stored parts) ≡ is_begun stored
has_same records stored parts k = begun_same records stored.end k.end

past_same : (s : Shipment) (records : List (List ℕ)) (stored : Stored) (parts : Option Parts) → IsCopyOf records stored → is_past s (copy_in records stored parts) ≡ comes_late s stored
past_same s records stored parts k = ap (λ (b : Bool). b && nat_le s.serial (serial_in_store stored)) (has_same records stored parts k)

ahead_same : (s : Shipment) (records : List (List ℕ)) (stored : Stored) (parts : Option Parts) → IsCopyOf records stored → is_ahead s (copy_in records stored parts) ≡ comes_early s stored
ahead_same s records stored parts k = ap (λ (b : Bool). not (is_whole s.sort) && (not b || nat_lt (serial_in_store stored + 1) s.serial)) (has_same records stored parts k)

pub replaced_same : (sort : Sort) (records : List (List ℕ)) (stored : Stored) (parts : Option Parts) → IsCopyOf records stored → is_rewritten sort (copy_in records stored parts) ≡ is_replaced sort stored
replaced_same sort records stored parts k = ap (λ (b : Bool). is_whole sort && b) (has_same records stored parts k)

-- A store without a record has no rows.
pub none_given : (records : List (List ℕ)) (stored : Stored) → IsCopyOf records stored → is_begun stored ≡ false → (records ≡ []) × (stored.rows ≡ [])
none_given records stored k e = by records k.end k.give
  where
    by : (list : List (List ℕ)) → stored.end ≡ slot_end list → Give Two list stored.rows → (list ≡ []) × (stored.rows ≡ [])
    by [] end give = (refl, give)
    by (bytes ∷ more) end give =
        let both : true ≡ false = sym (lt-ltb 0 (length (bytes ∷ more)) (omega arith)) ∙ begun_same (bytes ∷ more) stored.end end ∙ e in
        absurd cc

pub under_same : (sort : Sort) (records : List (List ℕ)) (stored : Stored) (parts : Option Parts) → IsCopyOf records stored → rows_before sort (copy_in records stored parts) ≡ rows_under sort stored
under_same Whole records stored parts k = by (is_begun stored) refl
  where
    by : (b : Bool) → is_begun stored ≡ b → [] ≡ cond b [] stored.rows
    by true e = refl
    by false e = sym (none_given records stored k e).1
under_same Next records stored parts k = refl

-- ---- a batch that leads on

on_so : (s : Shipment) (ops : List Op) (stored : Stored) → LeadsOn s ops stored
    → not (is_true_difference (rows_under s.sort stored) ops && are_of_serial s.serial (rows_after (rows_under s.sort stored) ops)) ≡ false
on_so s ops stored l = rw (l.changes, judged_so s.serial (rows_after (rows_under s.sort stored) ops) l.behind) refl

nowhere_so : (s : Shipment) (ops : List Op) (stored : Stored) → (LeadsOn s ops stored → ⊥)
    → not (is_true_difference (rows_under s.sort stored) ops && are_of_serial s.serial (rows_after (rows_under s.sort stored) ops)) ≡ true
nowhere_so s ops stored none = by (is_true_difference (rows_under s.sort stored) ops) refl (are_of_serial s.serial (rows_after (rows_under s.sort stored) ops)) refl
  where
    by : (a : Bool) → is_true_difference (rows_under s.sort stored) ops ≡ a → (b : Bool) → are_of_serial s.serial (rows_after (rows_under s.sort stored) ops) ≡ b → not (a && b) ≡ true
    by true e true f = absurd (none (record { changes = e; behind = found_so s.serial (rows_after (rows_under s.sort stored) ops) f }))
    by true e false f = refl
    by false e b f = refl

nowhere_same : (s : Shipment) (ops : List Op) (records : List (List ℕ)) (stored : Stored) (parts : Option Parts) → IsCopyOf records stored
    → leads_nowhere s ops (copy_in records stored parts) ≡ not (is_true_difference (rows_under s.sort stored) ops && are_of_serial s.serial (rows_after (rows_under s.sort stored) ops))
nowhere_same s ops records stored parts k =
    ap (λ (rows : ByteRows). not (is_true_difference rows ops && are_of_serial s.serial (rows_after rows ops))) (under_same s.sort records stored parts k)

-- ---- what is decided

pub if_true : {A : Type 0} (b : Bool) (x y : A) → b ≡ true → cond b x y ≡ x
if_true b x y e = ap (λ (t : Bool). cond t x y) e

pub if_false : {A : Type 0} (b : Bool) (x y : A) → b ≡ false → cond b x y ≡ y
if_false b x y e = ap (λ (t : Bool). cond t x y) e

pub found_decided : (bounds : StoreBounds) (s : Shipment) (ops : List Op) (c : Copy) → Spells s.bytes ops → received bounds s c ≡ decided bounds s ops c
found_decided bounds s ops c spells =
    ap (λ (o : Option (List Op)). option_map_or (λ (os : List Op). decided bounds s os c) o (takens.BadBatch, c)) (spelled_found s.bytes ops spells)

some_of : (t u : Taken) → ◌≡◌ {A = Option Taken} (Some t) (Some u) → t ≡ u
some_of t u e = ap (λ (o : Option Taken). unwrap_or o t) e

-- An answer before the batch is kept is that of following, and the copy stays.
pub answered_so : (bounds : StoreBounds) (s : Shipment) (ops : List Op) (records : List (List ℕ)) (stored : Stored) (parts : Option Parts) (told : Option (List ℕ) → Type 0) (t : Taken)
    → IsCopyOf records stored → Spells s.bytes ops → ((kept : Option (List ℕ)) → told kept → kept ≡ kept_of s.sort s.serial (serial_in_store stored) records)
    → AnswersSo s ops stored told (Some t) → received bounds s (copy_in records stored parts) ≡ (t, copy_in records stored parts)
answered_so bounds s ops records stored parts told t k spells kept (inl bad) =
    found_decided bounds s ops (copy_in records stored parts) spells ∙ if_true (is_no_whole s ops) _ _ bad.0
    ∙ ap (λ (u : Taken). (u, copy_in records stored parts)) (sym (some_of t takens.BadBatch bad.1))
answered_so bounds s ops records stored parts told t k spells kept (inr (good, inl late)) =
    found_decided bounds s ops (copy_in records stored parts) spells ∙ if_false (is_no_whole s ops) _ _ good
    ∙ if_true (is_past s (copy_in records stored parts)) _ _ (past_same s records stored parts k ∙ late.0)
    ∙ ap (λ (o : Option (List ℕ)). (beside s o, copy_in records stored parts)) (sym (kept late.1.0 late.1.1))
    ∙ ap (λ (u : Taken). (u, copy_in records stored parts)) (sym (some_of t (beside s late.1.0) late.1.2))
answered_so bounds s ops records stored parts told t k spells kept (inr (good, inr (now, inl early))) =
    found_decided bounds s ops (copy_in records stored parts) spells ∙ if_false (is_no_whole s ops) _ _ good
    ∙ if_false (is_past s (copy_in records stored parts)) _ _ (past_same s records stored parts k ∙ now)
    ∙ if_true (is_ahead s (copy_in records stored parts)) _ _ (ahead_same s records stored parts k ∙ early.0)
    ∙ ap (λ (u : Taken). (u, copy_in records stored parts)) (sym (some_of t takens.Ahead early.1))
answered_so bounds s ops records stored parts told t k spells kept (inr (good, inr (now, inr (due, inl none)))) =
    found_decided bounds s ops (copy_in records stored parts) spells ∙ if_false (is_no_whole s ops) _ _ good
    ∙ if_false (is_past s (copy_in records stored parts)) _ _ (past_same s records stored parts k ∙ now)
    ∙ if_false (is_ahead s (copy_in records stored parts)) _ _ (ahead_same s records stored parts k ∙ due)
    ∙ if_true (leads_nowhere s ops (copy_in records stored parts)) _ _ (nowhere_same s ops records stored parts k ∙ nowhere_so s ops stored none.0)
    ∙ ap (λ (u : Taken). (u, copy_in records stored parts)) (sym (some_of t takens.BadBatch none.1))
answered_so bounds s ops records stored parts told t k spells kept (inr (good, inr (now, inr (due, inr on)))) =
    let both : ◌≡◌ {A = Option Taken} (Some t) None = on.1 in absurd cc

-- What is left to following once a batch was found to lead on.
abbrev pub kept_or_full : StoreBounds → Shipment → List Op → Copy → Taken × Copy
kept_or_full bounds s ops c =
    cond (fills_slot bounds s c) (takens.Full, c) (cond (fills_mark bounds s c) (takens.MarkFull, c) (takens.Took, copy_behind s ops c))

pub leads_so : (bounds : StoreBounds) (s : Shipment) (ops : List Op) (records : List (List ℕ)) (stored : Stored) (parts : Option Parts) → IsCopyOf records stored → Spells s.bytes ops
    → is_no_whole s ops ≡ false → comes_late s stored ≡ false → comes_early s stored ≡ false → LeadsOn s ops stored
    → received bounds s (copy_in records stored parts) ≡ kept_or_full bounds s ops (copy_in records stored parts)
leads_so bounds s ops records stored parts k spells good now due on =
    found_decided bounds s ops (copy_in records stored parts) spells ∙ if_false (is_no_whole s ops) _ _ good
    ∙ if_false (is_past s (copy_in records stored parts)) _ _ (past_same s records stored parts k ∙ now)
    ∙ if_false (is_ahead s (copy_in records stored parts)) _ _ (ahead_same s records stored parts k ∙ due)
    ∙ if_false (leads_nowhere s ops (copy_in records stored parts)) _ _ (nowhere_same s ops records stored parts k ∙ on_so s ops stored on)
