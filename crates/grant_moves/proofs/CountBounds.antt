-- How high counts are: at most one for each policy, so that a count has room for all its steps up at once.
use Rattle.std.proofs.Common.{◌≡◌, ℕ, ◌+◌, ◌≤◌, List, length, sym, subst, arith}
use Rattle.std.proofs.lemmas.List.Sums.{count_by-le-length}
use Rattle.ctrl_model.specs.declared.kinds.Relation.{Relation}
use Rattle.ctrl_model.specs.declared.kinds.Kind.TheVariants as kind
use Rattle.ctrl_model.specs.Limits.{limit, most_number}
use Rattle.ctrl_model.specs.Numbered.{at}
use Rattle.ctrl_model.specs.State.{Policy, State}
use Rattle.ctrl_model.specs.Grants.{policies_for, count}
use Rattle.grant_denorm.specs.declared.deltas.Delta.{Delta}
use Rattle.grant_denorm.specs.Deltas.{ups, downs}
use Rattle.grant_moves.specs.EntitySides.{left_rows, right_rows}
use Rattle.grant_moves.specs.CountMoves.{LeadCounts}
use Rattle.grant_moves.proofs.CountRules.{joins_if, count_joined}

pub count_at_most : (r : Relation) (s : State) (a b : ℕ) → count r s a b ≤ length (policies_for r s)
count_at_most r s a b =
    subst (λ n. n ≤ length (policies_for r s)) (sym (count_joined r s a b))
    (count_by-le-length (λ (row : ℕ × Policy). joins_if r (at (left_rows r s) a) (at (right_rows r s) b) row.1) (policies_for r s))

pub has_count_room : (r : Relation) (s t : State) (ds : List Delta) → LeadCounts (count r s) (count r t) ds
    → length (policies_for r s) ≤ limit kind.ServicePolicy → length (policies_for r t) ≤ limit kind.ServicePolicy → (a b : ℕ) → count r s a b + ups ds a b ≤ most_number
has_count_room r s t ds led few few_after a b =
    room (count r s a b) (count r t a b) (ups ds a b) (downs ds a b) (length (policies_for r s)) (length (policies_for r t))
    (count_at_most r s a b) few (count_at_most r t a b) few_after (led.moves a b) (led.least a b)
  where
    room : (before after up down most most_after : ℕ) → before ≤ most → most ≤ limit kind.ServicePolicy → after ≤ most_after → most_after ≤ limit kind.ServicePolicy
        → after + down ≡ before + up → down ≤ before → before + up ≤ most_number
    room before after up down most most_after h k i j moved least = omega arith
