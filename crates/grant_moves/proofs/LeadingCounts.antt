-- Steps that lead from counts to counts: what a rule that says the same is led to, and that nothing leads where nothing changes.
use Rattle.std.proofs.Common.{◌≡◌, ℕ, ◌+◌, ◌≤◌, List, [], sym, ◌∙◌, ap, arith}
use Rattle.ctrl_model.specs.declared.kinds.Relation.{Relation}
use Rattle.ctrl_model.specs.Numbered.{at}
use Rattle.ctrl_model.specs.State.{State}
use Rattle.ctrl_model.specs.Grants.{policies_for, count}
use Rattle.grant_denorm.specs.declared.deltas.Delta.{Delta}
use Rattle.grant_denorm.specs.Deltas.{downs}
use Rattle.grant_moves.specs.EntitySides.{left_rows, right_rows}
use Rattle.grant_moves.specs.CountMoves.{LeadCounts}
use Rattle.grant_moves.proofs.CountRules.{joined, count_joined}

pub leads_on : (before after last : ℕ → ℕ → ℕ) (ds : List Delta) → LeadCounts before after ds → ((a b : ℕ) → after a b ≡ last a b) → LeadCounts before last ds
leads_on before after last ds led same = record {
  moves = λ p q. ap (λ n. n + downs ds p q) (sym (same p q)) ∙ led.moves p q;
  least = led.least;
}

pub unchanged_leads : (r : Relation) (s t : State) → policies_for r t ≡ policies_for r s → left_rows r t ≡ left_rows r s → right_rows r t ≡ right_rows r s
    → LeadCounts (count r s) (count r t) []
unchanged_leads r s t policies left right = record { moves = λ a b. ap (λ n. n + 0) (same a b); least = λ a b. least (count r s a b) }
  where
    same : (a b : ℕ) → count r t a b ≡ count r s a b
    same a b = count_joined r t a b ∙ (λ i. joined r (at (left i) a) (at (right i) b) (policies i)) ∙ sym (count_joined r s a b)

    least : (n : ℕ) → 0 ≤ n
    least n = omega arith
