-- Numbered maps: records under their numbers, in ascending order of the numbers (docs/RULES.md, "Records and numbers").
use Rattle.std.specs.Prelude.{ℕ, ◌+◌, ◌<◌, ◌≤◌, ◌==◌, nat_lt, ⊤, Bool, not, cond, List, [], ◌∷◌, ◌++◌, None, Some, map, filter, is_some}
use Rattle.std.specs.declared.option.Option.{Option}

-- The record at a number, if one is there.
abbrev pub at : {R : Type 0} → List (ℕ × R) → ℕ → Option R
at [] n = None
at (x ∷ xs) n = cond (x.0 == n) (Some x.1) (at xs n)

-- Whether a record is there.
abbrev pub is_present : {R : Type 0} → List (ℕ × R) → ℕ → Bool
is_present xs n = is_some (at xs n)

-- The records with one more at the end. A new record has the next number, which is above all others.
abbrev pub with_last : {R : Type 0} → List (ℕ × R) → ℕ → R → List (ℕ × R)
with_last xs n r = xs ++ (n, r) ∷ []

-- The records with one at a number, in the place of the one that stood there, if one did.
abbrev pub with_at : {R : Type 0} → ℕ → R → List (ℕ × R) → List (ℕ × R)
with_at n r [] = (n, r) ∷ []
with_at n r (x ∷ xs) = cond (nat_lt x.0 n) (x ∷ with_at n r xs) ((n, r) ∷ cond (x.0 == n) xs (x ∷ xs))

-- The records, of which the one at a number is changed.
abbrev pub edit_at : {R : Type 0} → List (ℕ × R) → ℕ → (R → R) → List (ℕ × R)
edit_at xs n f = map (λ x. (x.0, cond (x.0 == n) (f x.1) x.1)) xs

-- The records without the one at a number.
abbrev pub without : {R : Type 0} → List (ℕ × R) → ℕ → List (ℕ × R)
without xs n = filter (λ x. not (x.0 == n)) xs

-- The records, of which each is changed.
abbrev pub map_each : {R : Type 0} → (R → R) → List (ℕ × R) → List (ℕ × R)
map_each f xs = map (λ x. (x.0, f x.1)) xs

-- The numbers of the records, ascending.
abbrev pub numbers : {R : Type 0} → List (ℕ × R) → List ℕ
numbers xs = map (λ x. x.0) xs

-- The records themselves, in the order of their numbers.
abbrev pub records : {R : Type 0} → List (ℕ × R) → List R
records xs = map (λ x. x.1) xs

-- The first number whose record passes a test.
abbrev pub first_where : {R : Type 0} → (R → Bool) → List (ℕ × R) → Option ℕ
first_where test [] = None
first_where test (x ∷ xs) = cond (test x.1) (Some x.0) (first_where test xs)

-- The numbers ascend, from low on and below high.
abbrev pub Between : {R : Type 0} → ℕ → ℕ → List (ℕ × R) → Type 0
Between low high [] = ⊤
Between low high (x ∷ xs) = (low ≤ x.0) × (x.0 < high) × Between (x.0 + 1) high xs

-- A table: the records of one kind under their numbers, and the number that the next one gets.
pub record Table (R : Type 0) : Type 0 where
  pub rows : List (ℕ × R)
  pub next : ℕ

-- A table without records. The first one gets the number 1.
abbrev pub no_rows : {R : Type 0} → Table R
no_rows = record { rows = []; next = 1 }

-- The table with one more record, under the next number, which rises.
abbrev pub with_new : {R : Type 0} → R → Table R → Table R
with_new r t = record { rows = with_last t.rows t.next r; next = t.next + 1 }

-- The table, of which the record at a number is changed.
abbrev pub with_edit : {R : Type 0} → ℕ → (R → R) → Table R → Table R
with_edit n f t = record t { rows = edit_at t.rows n f }

-- The table without the record at a number.
abbrev pub with_removed : {R : Type 0} → ℕ → Table R → Table R
with_removed n t = record t { rows = without t.rows n }

-- The table, of which each record is changed.
abbrev pub with_each : {R : Type 0} → (R → R) → Table R → Table R
with_each f t = record t { rows = map_each f t.rows }

-- The table of the records that pass a test.
abbrev pub with_kept : {R : Type 0} → (ℕ × R → Bool) → Table R → Table R
with_kept p t = record t { rows = filter p t.rows }
