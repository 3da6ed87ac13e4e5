-- How counts are kept: a row for each left number, with each right number and its count, and both numbers ascending.
use Rattle.std.specs.Prelude.{◌≡◌, ℕ, ◌+◌, ◌<◌, ◌≤◌, ◌==◌, cond, ⊤, List, [], ◌∷◌, length, map, slice_index_or}
use Rattle.std.specs.List.{AllByRecursion, flat_map}

-- What stands at a number, or else a default.
abbrev pub value_at : {V : Type 0} → V → List (ℕ × V) → ℕ → V
value_at none [] n = none
value_at none (x ∷ xs) n = cond (x.0 == n) x.1 (value_at none xs n)

-- The number is below each of these.
abbrev pub IsBelowAll : {V : Type 0} → ℕ → List (ℕ × V) → Type 0
IsBelowAll n [] = ⊤
IsBelowAll n (x ∷ xs) = (n < x.0) × IsBelowAll n xs

-- The numbers ascend.
abbrev pub NumbersAscend : {V : Type 0} → List (ℕ × V) → Type 0
NumbersAscend [] = ⊤
NumbersAscend (x ∷ xs) = IsBelowAll x.0 xs × NumbersAscend xs

-- The number at a place.
abbrev pub number_at : {V : Type 0} → V → List (ℕ × V) → ℕ → ℕ
number_at none xs i = let x = slice_index_or xs i (0, none) in x.0

-- A number stands at a place.
pub record StandsAt {V : Type 0} (none : V) (xs : List (ℕ × V)) (n i : ℕ) : Type 0 where
  pub in_range : i < length xs
  pub is_it : number_at none xs i ≡ n

-- A number would stand at a place: those before it are smaller, and those from it on greater.
pub record WouldStandAt {V : Type 0} (none : V) (xs : List (ℕ × V)) (n i : ℕ) : Type 0 where
  pub in_range : i ≤ length xs
  pub smaller_before : (j : ℕ) → j < i → number_at none xs j < n
  pub greater_after : (j : ℕ) → i ≤ j → j < length xs → n < number_at none xs j

-- A row as it is kept: the right numbers ascend, and each has a count above 0.
pub record IsRow (rights : List (ℕ × ℕ)) : Type 0 where
  pub ascends : NumbersAscend rights
  pub counts : AllByRecursion (λ (x : ℕ × ℕ). 0 < x.1) rights

-- Rows as they are kept.
pub record AreRows (rows : List (ℕ × List (ℕ × ℕ))) : Type 0 where
  pub ascends : NumbersAscend rows
  pub each : AllByRecursion (λ (x : ℕ × List (ℕ × ℕ)). IsRow x.1) rows

-- The count of a right number of a row.
abbrev pub count_in : List (ℕ × ℕ) → ℕ → ℕ
count_in rights b = value_at 0 rights b

-- The row of a left number: an empty one where it has none.
abbrev pub row_at : List (ℕ × List (ℕ × ℕ)) → ℕ → List (ℕ × ℕ)
row_at rows a = value_at [] rows a

-- The pairs of a row with their counts.
abbrev pub pairs_of_row : ℕ × List (ℕ × ℕ) → List ((ℕ × ℕ) × ℕ)
pairs_of_row row = map (λ (x : ℕ × ℕ). ((row.0, x.0), x.1)) row.1

-- The pairs of all rows with their counts.
abbrev pub pairs_of : List (ℕ × List (ℕ × ℕ)) → List ((ℕ × ℕ) × ℕ)
pairs_of rows = flat_map pairs_of_row rows

-- One number's count is one higher, and every other's is as it was.
abbrev pub RaisesIn : List (ℕ × ℕ) → List (ℕ × ℕ) → ℕ → Type 0
RaisesIn old new b = (q : ℕ) → count_in new q ≡ count_in old q + cond (q == b) 1 0

-- One number's count is one lower, and every other's is as it was.
abbrev pub LowersIn : List (ℕ × ℕ) → List (ℕ × ℕ) → ℕ → Type 0
LowersIn old new b = (q : ℕ) → count_in new q + cond (q == b) 1 0 ≡ count_in old q
