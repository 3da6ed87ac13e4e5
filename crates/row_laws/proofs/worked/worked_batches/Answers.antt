use Rattle.std.proofs.Common.{[], ◌∷◌, refl, None, Some}
use Rattle.std.proofs.lemmas.Cmp.{nat_cmp_total}
use Rattle.std.specs.FinMap.{nat_cmp-IsAntisymmetric}
use Rattle.row_laws.proofs.Differences.{true_says}
use Rattle.row_laws.proofs.worked.worked_batches.Goals as goal

pub returns-clause-delete_and_put : goal.returns-clause-delete_and_put
returns-clause-delete_and_put c =
    true_says nat_cmp_total nat_cmp-IsAntisymmetric ((1, 7 ∷ []) ∷ []) ((1, None) ∷ (2, Some (8 ∷ [])) ∷ []) (tt, tt) (record { some = λ e. absurd (cc); exact = refl })

pub returns-clause-nothing : goal.returns-clause-nothing
returns-clause-nothing c d = d.some refl

pub returns-clause-equal_put : goal.returns-clause-equal_put
returns-clause-equal_put c d = d.changes 1 (Some (7 ∷ [])) refl refl

pub returns-clause-absent_deletion : goal.returns-clause-absent_deletion
returns-clause-absent_deletion c d = d.changes 2 None refl refl

pub returns-clause-twice_at_a_key : goal.returns-clause-twice_at_a_key
returns-clause-twice_at_a_key c d = let same = d.rises.0.0 in absurd (cc)
