-- The operations that bytes spell, and the serial behind them.
use Rattle.std.proofs.Common.{◌≡◌, ℕ, ◌+◌, ◌<◌, ◌≤◌, get_or, drop, Bool, true, false, cond, List, [], ◌∷◌, length, Option, None, Some, refl, sym, ap, ◌∙◌, length-append, arith}
use Rattle.std.specs.List.{AllByRecursion}
use Rattle.std.specs.Option.{unwrap_or, option_map_or}
use Rattle.std.specs.Ordering.{is_eq}
use Rattle.std.proofs.lemmas.List.{drop_more}
use Rattle.std.proofs.lemmas.Cmp.{nat_list_cmp_total}
use Rattle.std.proofs.lemmas.Map.Lookups.{exact_bytes}
use Rattle.row_codec.specs.declared.changes.Op.{Op}
use Rattle.row_codec.specs.declared.changes.Op.TheVariants.{Put, Delete}
use Rattle.row_codec.specs.RowDifference.{Rises, value_at}
use Rattle.row_codec.specs.Batches.{bytes_cmp, entry_of, entries_of, op_bytes, batch_bytes, IsSpelledOp, Spells}
use Rattle.row_codec.proofs.BatchLaws.{op_again}
use Rattle.row_laws.proofs.Differences.{value_at-with_batch}
use Rattle.slot_reading.specs.BatchRows.{ByteRows, rows_after, serial_key, serial_in}
use Rattle.ship_core.specs.Shipping.{ops_within, ops_in, serial_or_none}
use Rattle.ship_core.specs.Steps.{serial_by, serial_after}

-- ---- operations

one_byte : (o : Op) → 1 ≤ length (op_bytes o)
one_byte (Put key value) = omega arith
one_byte (Delete key) = omega arith

-- No fewer bytes than operations.
many_bytes : (ops : List Op) → length ops ≤ length (batch_bytes ops)
many_bytes [] = omega arith
many_bytes (o ∷ os) =
    let one = one_byte o in
    let rest = many_bytes os in
    let whole = length-append (op_bytes o) (batch_bytes os) in
    omega arith

-- What was spelled is read again.
ops_again : (steps : List ℕ) (ops : List Op) → AllByRecursion IsSpelledOp ops → length ops ≤ length steps → ops_within steps (batch_bytes ops) ≡ ops
ops_again [] [] fits few = refl
ops_again [] (o ∷ os) fits few = absurd (omega (arith, few))
ops_again (step ∷ steps) [] fits few = refl
ops_again (step ∷ steps) (o ∷ os) fits few =
    ap (λ (x : Option (Op × List ℕ)). option_map_or (λ y. y.0 ∷ ops_within steps y.1) x []) (op_again o (batch_bytes os) fits.0)
    ∙ ap (λ (l : List Op). o ∷ l) (ops_again steps os fits.1 (omega (arith, few)))

-- The operations of bytes are those that they spell.
pub ops_spelled : (bytes : List ℕ) (ops : List Op) → Spells bytes ops → ops_in bytes ≡ ops
ops_spelled bytes ops s =
    ap ops_in s.spelled ∙ ops_again (batch_bytes ops) ops s.batch.fits (many_bytes ops)

-- ---- serials

-- What some operations say of the serial is what stands at its key.
after_value : (serial : ℕ) (ops : List Op)
    → serial_after serial ops ≡ option_map_or (λ v. unwrap_or (serial_in v) 0) (value_at bytes_cmp (entries_of ops) serial_key) serial
after_value serial [] = refl
after_value serial (op ∷ ops) = by (is_eq (bytes_cmp (entry_of op).0 serial_key)) (after_value serial ops)
  where
    by : (b : Bool) → serial_after serial ops ≡ option_map_or (λ v. unwrap_or (serial_in v) 0) (value_at bytes_cmp (entries_of ops) serial_key) serial
        → unwrap_or (cond b (Some (unwrap_or (serial_in (entry_of op).1) 0)) None) (serial_after serial ops)
        ≡ option_map_or (λ v. unwrap_or (serial_in v) 0) (cond b (Some (entry_of op).1) (value_at bytes_cmp (entries_of ops) serial_key)) serial
    by true rest = refl
    by false rest = rest

-- The serial of the rows after operations.
pub serial_leads : (rows : ByteRows) (ops : List Op) → Rises bytes_cmp (entries_of ops) → serial_or_none (rows_after rows ops) ≡ serial_after (serial_or_none rows) ops
serial_leads rows ops r =
    ap (λ (v : Option (List ℕ)). unwrap_or (serial_in v) 0) (value_at-with_batch nat_list_cmp_total exact_bytes rows (entries_of ops) r serial_key)
    ∙ by (value_at bytes_cmp (entries_of ops) serial_key) ∙ sym (after_value (serial_or_none rows) ops)
  where
    by : (said : Option (Option (List ℕ))) → unwrap_or (serial_in (unwrap_or said (value_at bytes_cmp rows serial_key))) 0
        ≡ option_map_or (λ v. unwrap_or (serial_in v) 0) said (serial_or_none rows)
    by None = refl
    by (Some v) = refl

-- The operations from a place on, past one that says nothing of the serial or at one that does.
pub serial_step : (serial : ℕ) (ops : List Op) (i : ℕ) (op : Op) → i < length ops → op ≡ get_or ops i op
    → serial_after serial (drop i ops) ≡ unwrap_or (serial_by op) (serial_after serial (drop (i + 1) ops))
serial_step serial ops i op within is =
    ap (serial_after serial) (drop_more ops i op within ∙ ap (λ (o : Op). o ∷ drop (i + 1) ops) (sym is))
