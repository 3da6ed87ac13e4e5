use Rattle.std.proofs.Common.{◌≡◌, ℕ, List, [], ◌∷◌, get_or, refl, ap, arith}
use Rattle.ziti_outside.specs.declared.desk.Part.TheVariants.{Zero}
use Rattle.desk_base.proofs.KeptLaws.{by_parts}
use Rattle.desk_laws.proofs.worked_choices.Goals as goal

pub returns-clause-nothing_at_first : goal.returns-clause-nothing_at_first
returns-clause-nothing_at_first c = record { parts = by_parts _ _ refl refl refl; said = refl }

pub returns-clause-nothing_of_a_write : goal.returns-clause-nothing_of_a_write
returns-clause-nothing_of_a_write c = record { parts = by_parts _ _ refl refl refl; said = refl }

pub returns-clause-all_of_it_and_of_a_say : goal.returns-clause-all_of_it_and_of_a_say
returns-clause-all_of_it_and_of_a_say c = record { parts = by_parts _ _ refl refl refl; said = refl }

pub returns-clause-nothing_until_the_sync : goal.returns-clause-nothing_until_the_sync
returns-clause-nothing_until_the_sync c = record { parts = by_parts _ _ refl refl refl; said = refl }

pub returns-clause-synced : goal.returns-clause-synced
returns-clause-synced c = record { parts = by_parts _ _ refl refl refl; said = refl }

pub returns-clause-nothing_of_a_failed_write : goal.returns-clause-nothing_of_a_failed_write
returns-clause-nothing_of_a_failed_write c = record { parts = by_parts _ _ refl refl refl; said = refl }

pub returns-clause-all_of_a_failed_write : goal.returns-clause-all_of_a_failed_write
returns-clause-all_of_a_failed_write c = record { parts = by_parts _ _ refl refl refl; said = refl }

pub returns-clause-all_at_the_end : goal.returns-clause-all_at_the_end
returns-clause-all_at_the_end c = record { parts = by_parts _ _ refl refl refl; said = refl }

pub returns-clause-no_unsynced_write : goal.returns-clause-no_unsynced_write
returns-clause-no_unsynced_write c = λ kept.
    let same : 1 ∷ 7 ∷ 8 ∷ [] ≡ 1 ∷ 2 ∷ 3 ∷ [] = kept.parts Zero in
    omega (arith, ap (λ (l : List ℕ). get_or l 1 0) same)

pub returns-clause-no_write_lost : goal.returns-clause-no_write_lost
returns-clause-no_write_lost c = λ kept.
    let same : 1 ∷ 2 ∷ 3 ∷ [] ≡ 1 ∷ 7 ∷ 8 ∷ [] = kept.parts Zero in
    omega (arith, ap (λ (l : List ℕ). get_or l 1 0) same)
