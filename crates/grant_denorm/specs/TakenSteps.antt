-- When counts can take steps, and what they are then (docs/RULES.md, "Policies and grants").
use Rattle.std.specs.Prelude.{◌≡◌, ℕ, ◌+◌, ◌≤◌, List}
use Rattle.ctrl_model.specs.Limits.{most_number}
use Rattle.grant_denorm.specs.declared.deltas.Delta.{Delta}
use Rattle.grant_denorm.specs.PairCounts.{count_of}
use Rattle.grant_denorm.specs.Deltas.{ups, downs}

-- No pair has more steps down than its count, nor so many up that the count passes the greatest number of four bytes.
pub record HaveRoom (pairs : List ((ℕ × ℕ) × ℕ)) (ds : List Delta) : Type 0 where
  pub least : (a b : ℕ) → downs ds a b ≤ count_of pairs a b
  pub most : (a b : ℕ) → count_of pairs a b + ups ds a b ≤ most_number

-- Counts, pair by pair, are those of some pairs with the steps taken.
abbrev pub Taken : List ((ℕ × ℕ) × ℕ) → (ℕ → ℕ → ℕ) → List Delta → Type 0
Taken pairs after ds = (a b : ℕ) → after a b + downs ds a b ≡ count_of pairs a b + ups ds a b
