-- The first of some things by what they are ranked by, compared from left to right (docs/RULES.md, "Circuits", "Settling").
use Rattle.std.specs.Prelude.{ℕ, Bool, cond, List, [], ◌∷◌, None, Some}
use Rattle.std.specs.declared.option.Option.{Option}
use Rattle.std.specs.Cmp.Lexicographic.{slice_cmp}
use Rattle.std.specs.Ordering.{nat_cmp, is_lt}

-- Whether one thing comes before another by its rank.
abbrev pub comes_before : {A : Type 0} → (A → List ℕ) → A → A → Bool
comes_before rank_of a b = is_lt (slice_cmp nat_cmp (rank_of a) (rank_of b))

-- The one of two that comes first.
abbrev pub first_of : {A : Type 0} → (A → List ℕ) → A → Option A → A
first_of rank_of a None = a
first_of rank_of a (Some b) = cond (comes_before rank_of b a) b a

-- The first of some things.
abbrev pub least_by : {A : Type 0} → (A → List ℕ) → List A → Option A
least_by rank_of [] = None
least_by rank_of (x ∷ xs) = Some (first_of rank_of x (least_by rank_of xs))
