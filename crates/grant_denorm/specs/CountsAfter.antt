-- Counts once some steps are taken, told by the steps of each pair (docs/RULES.md, "Policies and grants").
use Rattle.std.specs.Prelude.{ℕ, ◌+◌, ◌-◌, ◌≤◌, Bool, not, ◌&&◌, cond, List, count_by}
use Rattle.grant_denorm.specs.declared.deltas.Delta.{Delta}
use Rattle.grant_denorm.specs.Deltas.{is_at}
use Rattle.grant_denorm.specs.PairCounts.{count_of}

-- Whether a step goes a way: up, or else down.
abbrev pub goes : Bool → Bool → Bool
goes way up = cond way up (not up)

-- How many steps one way some steps have at a pair.
abbrev pub steps_at : Bool → List Delta → ℕ → ℕ → ℕ
steps_at way ds a b = count_by (λ d. goes way d.up && is_at a b d) ds

-- Counts, and how many steps up and how many down each pair takes.
pub record CountsMoved : Type 0 where
  pub before : List ((ℕ × ℕ) × ℕ)
  pub up : List ((ℕ × ℕ) × ℕ)
  pub down : List ((ℕ × ℕ) × ℕ)

-- The count of a pair with its steps up and without its steps down.
abbrev pub count_after : CountsMoved → ℕ → ℕ → ℕ
count_after c a b = count_of c.before a b + count_of c.up a b - count_of c.down a b

-- No pair has more steps down than its count and its steps up.
abbrev pub Fits : CountsMoved → Type 0
Fits c = (p q : ℕ) → count_of c.down p q ≤ count_of c.before p q + count_of c.up p q
