-- The difference of two lists of rows: what a batch says that leads from the one to the other, key by key (docs/FORMATS.md,
-- "Batches"). Rows and batches have keys of any type that an order ranks: the keys of tables, or their bytes.
use Rattle.std.specs.Prelude.{◌≡◌, ℕ, ⊤, not, cond, List, [], ◌∷◌, ◌++◌, map, filter, None, Some}
use Rattle.std.specs.declared.option.Option.{Option}
use Rattle.std.specs.List.{AllByRecursion}
use Rattle.std.specs.declared.cmp.Ordering.{Ordering}
use Rattle.std.specs.declared.cmp.Ordering.TheVariants.{Less}
use Rattle.std.specs.Ordering.{match_ordering, is_eq, is_lt, is_gt}
use Rattle.std.specs.Str.{bytes_eq}

-- The value under a key, if one is there.
abbrev pub value_at : {K V : Type 0} → (K → K → Ordering) → List (K × V) → K → Option V
value_at R [] q = None
value_at R (x ∷ xs) q = cond (is_eq (R x.0 q)) (Some x.1) (value_at R xs q)

-- The keys rise: each comes before all that follow it.
abbrev pub Rises : {K V : Type 0} → (K → K → Ordering) → List (K × V) → Type 0
Rises R [] = ⊤
Rises R (x ∷ xs) = AllByRecursion (λ y. R x.0 y.0 ≡ Less) xs × Rises R xs

-- What a batch has at a key: a value that is put, or none where the row is deleted.
abbrev pub Entry : Type 0 → Type 0
Entry K = K × Option (List ℕ)

-- What must be said of a key whose value goes from one to another: nothing where it stays, else the new one.
abbrev pub said_of : Option (List ℕ) → Option (List ℕ) → Option (Option (List ℕ))
said_of None None = None
said_of None (Some new) = Some (Some new)
said_of (Some old) None = Some None
said_of (Some old) (Some new) = cond (bytes_eq old new) None (Some (Some new))

-- A batch is the difference of two lists of rows: its keys rise, and at each key it says what must be said, and no more.
pub record IsDifference {K : Type 0} (R : K → K → Ordering) (old new : List (K × List ℕ)) (batch : List (Entry K)) : Type 0 where
  pub rises : Rises R batch
  pub each : (q : K) → value_at R batch q ≡ said_of (value_at R old q) (value_at R new q)

-- The entry that leads from one row of a key to another.
abbrev pub put_if_other : {K : Type 0} → K × List ℕ → K × List ℕ → List (Entry K) → List (Entry K)
put_if_other x y rest = cond (bytes_eq x.1 y.1) rest ((y.0, Some y.1) ∷ rest)

-- The difference with one more old row at the front, whose key comes before those of the other old rows.
abbrev pub with_old : {K : Type 0} → (K → K → Ordering) → K × List ℕ → (List (K × List ℕ) → List (Entry K)) → List (K × List ℕ) → List (Entry K)
with_old R x rest [] = (x.0, None) ∷ rest []
with_old R x rest (y ∷ ys) =
    match_ordering (R x.0 y.0)
    ((x.0, None) ∷ rest (y ∷ ys))
    (put_if_other x y (rest ys))
    ((y.0, Some y.1) ∷ with_old R x rest ys)

-- The difference of two lists of rows whose keys rise. There is just one, and this computes it.
abbrev pub difference : {K : Type 0} → (K → K → Ordering) → List (K × List ℕ) → List (K × List ℕ) → List (Entry K)
difference R [] new = map (λ y. (y.0, Some y.1)) new
difference R (x ∷ xs) new = with_old R x (difference R xs) new

-- The rows after one entry.
abbrev pub with_entry : {K : Type 0} → (K → K → Ordering) → List (K × List ℕ) → Entry K → List (K × List ℕ)
with_entry {K = K} R rows e = entered e.1
  where
    entered : Option (List ℕ) → List (K × List ℕ)
    entered None = filter (λ x. not (is_eq (R x.0 e.0))) rows
    entered (Some v) = filter (λ x. is_lt (R x.0 e.0)) rows ++ ((e.0, v) ∷ filter (λ x. is_gt (R x.0 e.0)) rows)

-- The rows after a batch.
abbrev pub with_batch : {K : Type 0} → (K → K → Ordering) → List (K × List ℕ) → List (Entry K) → List (K × List ℕ)
with_batch R rows [] = rows
with_batch R rows (e ∷ es) = with_batch R (with_entry R rows e) es

-- A batch is a true difference of rows: it says something, and no more than must be said between the rows and those after it.
pub record IsTrueDifference {K : Type 0} (R : K → K → Ordering) (rows : List (K × List ℕ)) (batch : List (Entry K)) : Type 0 where
  pub some : batch ≡ [] → ⊥
  pub exact : batch ≡ difference R rows (with_batch R rows batch)
