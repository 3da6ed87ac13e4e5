-- Rows under keys and under the bytes of their keys: both rise, and both have the same difference.
use Rattle.std.proofs.Common.{◌≡◌, ℕ, Bool, true, false, cond, List, [], ◌∷◌, map, Option, None, Some, refl, sym, ◌∙◌, ap, bytes_eq, Ordering, Less, Equal, Greater}
use Rattle.std.specs.Ordering.{match_ordering}
use Rattle.std.specs.List.{AllByRecursion}
use Rattle.ctrl_model.specs.declared.formats.Format.{Format}
use Rattle.ctrl_model.specs.State.{State}
use Rattle.row_codec.specs.RowKeys.{Key, key_cmp, key_bytes, is_key}
use Rattle.row_codec.specs.RowDifference.{Entry, Rises, put_if_other, with_old, difference}
use Rattle.row_codec.specs.StateRows.{Rows, rows_of}
use Rattle.row_codec.specs.Batches.{bytes_cmp, entries_of, entry_of, op_at, ops_of, spelled_rows, batch_between}
use Rattle.row_laws.proofs.RisingRows.{Above}
use Rattle.row_laws.proofs.KeyOrders.{bytes_order}

-- all rows are under keys
abbrev pub AreKeys : {V : Type 0} → List (Key × V) → Type 0
AreKeys {V = V} xs = AllByRecursion (λ (x : Key × V). is_key x.0 ≡ true) xs

-- what stands under keys, under their bytes
abbrev pub spelled : {V : Type 0} → List (Key × V) → List (List ℕ × V)
spelled xs = map (λ x. (key_bytes x.0, x.1)) xs

-- ---- they rise

Above-spelled : {V : Type 0} (p : Key) (xs : List (Key × V)) → is_key p ≡ true → AreKeys xs → Above key_cmp p xs → Above bytes_cmp (key_bytes p) (spelled xs)
Above-spelled p [] h k a = tt
Above-spelled p (x ∷ xs) h k a = (bytes_order p x.0 h k.0 ∙ a.0, Above-spelled p xs h k.1 a.1)

pub Rises-spelled : {V : Type 0} (xs : List (Key × V)) → AreKeys xs → Rises key_cmp xs → Rises bytes_cmp (spelled xs)
Rises-spelled [] k r = tt
Rises-spelled (x ∷ xs) k r = (Above-spelled x.0 xs k.0 k.1 r.0, Rises-spelled xs k.1 r.1)

-- ---- they have the same difference

abbrev SpellsAlike : (List (Key × List ℕ) → List (Entry Key)) → (List (List ℕ × List ℕ) → List (Entry (List ℕ))) → Type 0
SpellsAlike rest spelt = (ys : Rows) → AreKeys ys → spelt (spelled ys) ≡ spelled (rest ys)

spelled-with_old : (x : Key × List ℕ) (rest : List (Key × List ℕ) → List (Entry Key)) (spelt : List (List ℕ × List ℕ) → List (Entry (List ℕ)))
    → is_key x.0 ≡ true → SpellsAlike rest spelt → SpellsAlike (with_old key_cmp x rest) (with_old bytes_cmp (key_bytes x.0, x.1) spelt)
spelled-with_old x rest spelt h e [] k = λ i. (key_bytes x.0, None) ∷ e [] tt i
spelled-with_old x rest spelt h e (y ∷ ys) k =
    ap (λ c. match_ordering c ((key_bytes x.0, None) ∷ spelt (spelled (y ∷ ys))) (put_if_other (key_bytes x.0, x.1) (key_bytes y.0, y.1) (spelt (spelled ys)))
    ((key_bytes y.0, Some y.1) ∷ with_old bytes_cmp (key_bytes x.0, x.1) spelt (spelled ys))) (bytes_order x.0 y.0 h k.0)
    ∙ by (key_cmp x.0 y.0) (spelled-with_old x rest spelt h e ys k.1)
  where
    put : (c : Bool) → cond c (spelt (spelled ys)) ((key_bytes y.0, Some y.1) ∷ spelt (spelled ys)) ≡ spelled (cond c (rest ys) ((y.0, Some y.1) ∷ rest ys))
    put true = e ys k.1
    put false = λ i. (key_bytes y.0, Some y.1) ∷ e ys k.1 i

    by : (c : Ordering) → with_old bytes_cmp (key_bytes x.0, x.1) spelt (spelled ys) ≡ spelled (with_old key_cmp x rest ys)
        → match_ordering c ((key_bytes x.0, None) ∷ spelt (spelled (y ∷ ys))) (put_if_other (key_bytes x.0, x.1) (key_bytes y.0, y.1) (spelt (spelled ys)))
        ((key_bytes y.0, Some y.1) ∷ with_old bytes_cmp (key_bytes x.0, x.1) spelt (spelled ys))
        ≡ spelled (match_ordering c ((x.0, None) ∷ rest (y ∷ ys)) (put_if_other x y (rest ys)) ((y.0, Some y.1) ∷ with_old key_cmp x rest ys))
    by Less t = λ i. (key_bytes x.0, None) ∷ e (y ∷ ys) k i
    by Equal t = put (bytes_eq x.1 y.1)
    by Greater t = λ i. (key_bytes y.0, Some y.1) ∷ t i

pub spelled-difference : (old new : Rows) → AreKeys old → AreKeys new → difference bytes_cmp (spelled old) (spelled new) ≡ spelled (difference key_cmp old new)
spelled-difference [] new k l = all_new new
  where
    all_new : (ys : Rows) → map (λ y. (y.0, Some y.1)) (spelled ys) ≡ spelled (map (λ y. (y.0, Some y.1)) ys)
    all_new [] = refl
    all_new (y ∷ ys) = λ i. (key_bytes y.0, Some y.1) ∷ all_new ys i
spelled-difference (x ∷ xs) new k l =
    spelled-with_old x (difference key_cmp xs) (difference bytes_cmp (spelled xs)) k.0 (λ ys m. spelled-difference xs ys k.1 m) new l

-- ---- as operations

pub entries_of-ops_of : (entries : List (Entry Key)) → entries_of (ops_of entries) ≡ spelled entries
entries_of-ops_of [] = refl
entries_of-ops_of (e ∷ es) = by e.1 (entries_of-ops_of es)
  where
    by : (o : Option (List ℕ)) → entries_of (ops_of es) ≡ spelled es → (entry_of (op_at (key_bytes e.0) o) ∷ entries_of (ops_of es)) ≡ ((key_bytes e.0, o) ∷ spelled es)
    by None h = λ i. (key_bytes e.0, None) ∷ h i
    by (Some v) h = λ i. (key_bytes e.0, Some v) ∷ h i

pub batch_between-spelled : (format : Format) (s t : State) → AreKeys (rows_of format s) → AreKeys (rows_of format t)
    → entries_of (batch_between format s t) ≡ difference bytes_cmp (spelled_rows (rows_of format s)) (spelled_rows (rows_of format t))
batch_between-spelled format s t k l =
    entries_of-ops_of (difference key_cmp (rows_of format s) (rows_of format t)) ∙ sym (spelled-difference (rows_of format s) (rows_of format t) k l)
