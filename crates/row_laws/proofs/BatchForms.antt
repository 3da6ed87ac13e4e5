-- The batch between two valid states is a batch: its keys rise as bytes, and its lengths fit.
use Rattle.std.proofs.Common.{ℕ, ◌^◌, ◌<◌, ◌≤◌, ◌==◌, nat_lt, Bool, true, false, cond, List, [], ◌∷◌, ◌++◌, length, None, Some, sym, subst, arith, bytes_eq, Ordering, Less, Equal, Greater}
use Rattle.std.proofs.lemmas.Cmp.{nat_list_cmp_total}
use Rattle.std.specs.FinMap.{IsAntisymmetric, nat_cmp-IsAntisymmetric, slice_cmp-IsAntisymmetric}
use Rattle.std.specs.Ordering.{match_ordering}
use Rattle.std.specs.List.{AllByRecursion}
use Rattle.ctrl_model.specs.declared.formats.Format.{Format}
use Rattle.ctrl_model.specs.State.{State}
use Rattle.ctrl_model.specs.ValidState.{ValidState}
use Rattle.row_codec.specs.RowKeys.{Key, key_cmp, key_bytes, number_in_key}
use Rattle.row_codec.specs.RowDifference.{Entry, Rises, put_if_other, with_old, difference}
use Rattle.row_codec.specs.StateRows.{rows_of}
use Rattle.row_codec.specs.Batches.{bytes_cmp, op_at, spelled_rows, batch_between, IsSpelledOp, IsBatch}
use Rattle.row_laws.proofs.RisingRows.{All-map, All-more, All-each}
use Rattle.row_laws.proofs.Differences.{Rises-difference}
use Rattle.row_laws.proofs.RisingStates.{Rises-rows_of}
use Rattle.row_laws.proofs.SpelledKeys.{Rises-spelled, batch_between-spelled}
use Rattle.row_laws.proofs.WrittenRows.{Written, AscendIn-valid, IsNumbered-valid, written_rows, AreKeys-rows_of}

pub bytes_exact : IsAntisymmetric bytes_cmp
bytes_exact = slice_cmp-IsAntisymmetric nat_cmp-IsAntisymmetric

-- ---- what holds of each entry of a difference

All-with_old : {K : Type 0} (R : K → K → Ordering) (P : Entry K → Type 0) (x : K × List ℕ) (rest : List (K × List ℕ) → List (Entry K)) → P (x.0, None)
    → ((ys : List (K × List ℕ)) → AllByRecursion (λ (y : K × List ℕ). P (y.0, Some y.1)) ys → AllByRecursion P (rest ys))
    → (ys : List (K × List ℕ)) → AllByRecursion (λ (y : K × List ℕ). P (y.0, Some y.1)) ys → AllByRecursion P (with_old R x rest ys)
All-with_old R P x rest h r [] a = (h, r [] tt)
All-with_old R P x rest h r (y ∷ ys) a = by (R x.0 y.0) (All-with_old R P x rest h r ys a.1)
  where
    put : (c : Bool) → AllByRecursion P (cond c (rest ys) ((y.0, Some y.1) ∷ rest ys))
    put true = r ys a.1
    put false = (a.0, r ys a.1)

    by : (c : Ordering) → AllByRecursion P (with_old R x rest ys)
        → AllByRecursion P (match_ordering c ((x.0, None) ∷ rest (y ∷ ys)) (put_if_other x y (rest ys)) ((y.0, Some y.1) ∷ with_old R x rest ys))
    by Less t = (h, r (y ∷ ys) a)
    by Equal t = put (bytes_eq x.1 y.1)
    by Greater t = (a.0, t)

pub All-difference : {K : Type 0} (R : K → K → Ordering) (P : Entry K → Type 0) (old new : List (K × List ℕ)) → AllByRecursion (λ (x : K × List ℕ). P (x.0, None)) old
    → AllByRecursion (λ (y : K × List ℕ). P (y.0, Some y.1)) new → AllByRecursion P (difference R old new)
All-difference R P [] new a b = All-map P (λ y. (y.0, Some y.1)) new b
All-difference R P (x ∷ xs) new a b = All-with_old R P x (difference R xs) a.0 (λ ys. All-difference R P xs ys a.1) new b

-- ---- lengths

short_key : (k : Key) → length (key_bytes k) ≤ 255
short_key k = by (k.0 == 1) (k.0 == 2) (nat_lt k.0 12) (nat_lt k.0 16) (k.0 == 16)
  where
    by : (u v w x y : Bool) → length (k.0 ∷ cond u (k.1 ∷ []) (cond v [] (cond w (number_in_key k.1) (cond x (number_in_key k.1 ++ number_in_key k.2) (cond y (number_in_key k.1) []))))) ≤ 255
    by true v w x y = omega arith
    by false true w x y = omega arith
    by false false true x y = omega arith
    by false false false true y = omega arith
    by false false false false true = omega arith
    by false false false false false = omega arith

pub IsBatch-between : (format : Format) (s t : State) → ValidState s → ValidState t → IsBatch (batch_between format s t)
IsBatch-between format s t v w =
    let rises = Rises-rows_of format s (IsNumbered-valid s v) (AscendIn-valid format s v) in
    let after = Rises-rows_of format t (IsNumbered-valid t w) (AscendIn-valid format t w) in
    record {
      rises = subst (λ (es : List (Entry (List ℕ))). Rises bytes_cmp es) (sym (batch_between-spelled format s t (AreKeys-rows_of format s v) (AreKeys-rows_of format t w)))
          (Rises-difference nat_list_cmp_total bytes_exact (spelled_rows (rows_of format s)) (spelled_rows (rows_of format t))
          (Rises-spelled (rows_of format s) (AreKeys-rows_of format s v) rises) (Rises-spelled (rows_of format t) (AreKeys-rows_of format t w) after));
      fits = All-map IsSpelledOp (λ e. op_at (key_bytes e.0) e.1) (difference key_cmp (rows_of format s) (rows_of format t))
          (All-difference key_cmp (λ e. IsSpelledOp (op_at (key_bytes e.0) e.1)) (rows_of format s) (rows_of format t)
          (All-each (λ (x : Key × List ℕ). length (key_bytes x.0) ≤ 255) (λ x. short_key x.0) (rows_of format s))
          (All-more (Written format) (λ (x : Key × List ℕ). (length (key_bytes x.0) ≤ 255) × (length x.1 < 2 ^ 32)) (λ x written. (short_key x.0, written.short_value)) (rows_of format t) (written_rows format t w)));
    }
