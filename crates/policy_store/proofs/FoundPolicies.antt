-- A number that a name finds is that of a policy.
use Rattle.std.proofs.Common.{◌≡◌, ℕ, List, None, Some, ◌∙◌}
use Rattle.std.proofs.lemmas.Option.{none-some}
use Rattle.ctrl_model.specs.declared.kinds.Kind.{Kind}
use Rattle.ctrl_model.specs.Numbered.{at}
use Rattle.ctrl_model.specs.State.{Policy}
use Rattle.ctrl_model.proofs.TableLaws.{found-named}
use Rattle.policy_store.specs.PolicyTables.{PolicyTables, policies, next_of, number_of}
use Rattle.policy_store.specs.PolicyRules.{KeepsNumbers}

-- a number that a name finds is that of a policy
pub finds_policy : (k : Kind) (name : List ℕ) (t : PolicyTables) (n : ℕ) → KeepsNumbers k t → number_of k name t ≡ Some n → None ≡ at (policies k t) n → ⊥
finds_policy k name t n keeps named absent =
    by (found-named (λ (q : Policy). q.name) (policies k t) n name (next_of k t) 1 keeps.ordered named)
  where
    by : (q : Policy) × (at (policies k t) n ≡ Some q) × (q.name ≡ name) → ⊥
    by f = none-some f.0 (absent ∙ f.1)
