-- The rows of a valid state in the second format tell its serial.
use Rattle.std.proofs.Common.{◌≡◌, ℕ, ◌≤◌, nat_lt, Bool, true, false, cond, [], ◌∷◌, None, Some, refl, ap, ◌∙◌, arith}
use Rattle.std.specs.declared.cmp.Ordering.{Ordering}
use Rattle.std.specs.Ordering.{is_eq}
use Rattle.std.specs.Int.{from_le_bytes}
use Rattle.std.proofs.lemmas.Bool.Decides.{nat_tests}
use Rattle.std.proofs.lemmas.Nat.{from_le_bytes-to_le_bytes_8}
use Rattle.ctrl_model.specs.declared.formats.Format.TheVariants.{Two}
use Rattle.ctrl_model.specs.Limits.{last_serial}
use Rattle.ctrl_model.specs.State.{State}
use Rattle.ctrl_model.specs.ValidState.{ValidState}
use Rattle.row_codec.specs.RowKeys.{Key, key_cmp, key_bytes, is_key}
use Rattle.row_codec.specs.RowValues.{wide}
use Rattle.row_codec.specs.RowDifference.{value_at}
use Rattle.row_codec.specs.StateRows.{Rows, rows_of}
use Rattle.row_codec.specs.Batches.{bytes_cmp, spelled_rows}
use Rattle.row_laws.proofs.KeyOrders.{bytes_order}
use Rattle.row_laws.proofs.RowsAtKeys.{value_at-rows_of}
use Rattle.row_laws.proofs.SpelledKeys.{AreKeys}
use Rattle.row_laws.proofs.WrittenRows.{AreKeys-rows_of}
use Rattle.slot_reading.specs.BatchRows.{serial_in, serial_of}

-- Under the bytes of a key stands what stands under the key.
value_spelled : (rows : Rows) (q : Key) → AreKeys rows → is_key q ≡ true → value_at bytes_cmp (spelled_rows rows) (key_bytes q) ≡ value_at key_cmp rows q
value_spelled [] q keys e = refl
value_spelled (x ∷ xs) q keys e =
    ap (λ (o : Ordering). cond (is_eq o) (Some x.1) (value_at bytes_cmp (spelled_rows xs) (key_bytes q))) (bytes_order x.0 q keys.0 e)
    ∙ ap (cond (is_eq (key_cmp x.0 q)) (Some x.1)) (value_spelled xs q keys.1 e)

-- The value of a serial tells it, and where it is 0 there is none.
serial_told : (n : ℕ) → n ≤ last_serial → (above : Bool) → nat_lt 0 n ≡ above → serial_in (cond above (Some (wide n)) None) ≡ Some n
serial_told n upto true e =
    ap (λ (m : ℕ). cond (nat_lt 0 m) (Some m) None) (from_le_bytes-to_le_bytes_8 n (omega (arith, upto)))
    ∙ ap (λ (b : Bool). cond b (Some n) None) e
serial_told n upto false e = ap (λ (m : ℕ). Some m) (none n e)
  where
    none : (m : ℕ) → nat_lt 0 m ≡ false → 0 ≡ m
    none m f = grind (arith, nat_tests, f)

pub serial_of_state : (s : State) → ValidState s → serial_of (spelled_rows (rows_of Two s)) ≡ Some s.serial
serial_of_state s v =
    ap serial_in (value_spelled (rows_of Two s) (17, 0, 0) (AreKeys-rows_of Two s v) refl ∙ value_at-rows_of Two s (17, 0, 0))
    ∙ serial_told s.serial v.counted (nat_lt 0 s.serial) refl
