use Rattle.std.proofs.Common.{◌≡◌, inl, inr, ℕ, List, [], ◌∷◌, get_or, refl, ap, arith}
use Rattle.desk_laws.proofs.worked_stages.Goals as goal

pub returns-clause-within_the_first_call : goal.returns-clause-within_the_first_call
returns-clause-within_the_first_call c = λ image. inl refl

pub returns-clause-behind_the_first_call : goal.returns-clause-behind_the_first_call
returns-clause-behind_the_first_call c = λ image p. elim p as (λ _. ⊥) [
  | inl e ↦ let same : 1 ∷ 2 ∷ [] ≡ 2 ∷ 3 ∷ [] = e in omega (arith, ap (λ (l : List ℕ). get_or l 0 0) same)
  | inr e ↦ let same : 1 ∷ 2 ∷ [] ≡ 3 ∷ [] = e in omega (arith, ap (λ (l : List ℕ). get_or l 0 0) same)
]

pub returns-clause-within_the_second_call : goal.returns-clause-within_the_second_call
returns-clause-within_the_second_call c = λ image. inl refl

pub returns-clause-now : goal.returns-clause-now
returns-clause-now c = λ image. refl
