-- What steps are for: the counts are a rule's, and stay so while the rule and the counts take the same steps.
use Rattle.std.specs.Prelude.{◌≡◌, ℕ, ◌+◌, cond, List}
use Rattle.grant_denorm.specs.declared.deltas.Cross.{Cross}
use Rattle.grant_denorm.specs.declared.deltas.Delta.{Delta}
use Rattle.grant_denorm.specs.PairCounts.{count_of}
use Rattle.grant_denorm.specs.Deltas.{ups, downs, has_pair}

-- The count of each pair is what the rule says of it.
abbrev pub AreCountsOf : (ℕ → ℕ → ℕ) → List ((ℕ × ℕ) × ℕ) → Type 0
AreCountsOf rule pairs = (p q : ℕ) → count_of pairs p q ≡ rule p q

-- A rule before and after some steps: at each pair it rises by the steps up and falls by the steps down.
abbrev pub Moves : (ℕ → ℕ → ℕ) → (ℕ → ℕ → ℕ) → List Delta → Type 0
Moves before after ds = (p q : ℕ) → after p q + downs ds p q ≡ before p q + ups ds p q

-- How often one policy grants each pair: once where its product has it.
abbrev pub grants_of : Cross → ℕ → ℕ → ℕ
grants_of c a b = cond (has_pair c a b) 1 0
