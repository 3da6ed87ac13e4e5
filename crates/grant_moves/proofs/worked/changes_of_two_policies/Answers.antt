use Rattle.std.proofs.Common.{◌≡◌, ℕ, ◌+◌, ◌==◌, Bool, true, false, not, cond, ◌&&◌, ◌||◌, None, [], ◌∷◌, refl, arith}
use Rattle.ctrl_model.specs.declared.kinds.Relation.TheVariants.{Dial}
use Rattle.ctrl_model.specs.Numbered.{at, with_removed}
use Rattle.ctrl_model.specs.WorkedStates.{two_policies}
use Rattle.ctrl_model.proofs.NumberedLaws.{at-without-other}
use Rattle.grant_denorm.proofs.DeltaLaws.{ups-turns, downs-turns}
use Rattle.grant_moves.specs.GrantTurns.{turns_of}
use Rattle.grant_moves.proofs.EntityMoves.{entity_leads}
use Rattle.grant_moves.proofs.PolicyMoves.{policy_leads}
use Rattle.grant_moves.proofs.worked.changes_of_two_policies.Goals as goal

pub returns-clause-an_entity : goal.returns-clause-an_entity
returns-clause-an_entity c = record {
  policies = refl;
  entity_was = refl;
  entity_is = refl;
  others = λ n ne. at-without-other two_policies.identities.rows 1 n ne;
  partners = refl;
  high = 2;
  ordered = (omega arith, omega arith, tt);
}

pub returns-clause-a_policy : goal.returns-clause-a_policy
returns-clause-a_policy c = record {
  left = refl;
  right = refl;
  policy_was = refl;
  policy_is = refl;
  others = λ n ne. at-without-other two_policies.service_policies.rows 1 n ne;
  high = 3;
  ordered = (omega arith, omega arith, (omega arith, omega arith, tt));
  high_after = 3;
  ordered_after = (omega arith, omega arith, tt);
  left_high = 2;
  left_ordered = (omega arith, omega arith, tt);
  right_high = 2;
  right_ordered = (omega arith, omega arith, tt);
}

pub returns-clause-two_steps : goal.returns-clause-two_steps
returns-clause-two_steps c =
    entity_leads Dial true 1 (at two_policies.identities.rows 1) None two_policies (record two_policies { identities = with_removed 1 two_policies.identities })
    (record { a = 1; b = 1; up = false } ∷ record { a = 1; b = 1; up = false } ∷ []) (returns-clause-an_entity c)
    (ups-turns 1 true (turns_of Dial true (at two_policies.identities.rows 1) None two_policies.services.rows two_policies.service_policies.rows))
    (downs-turns 1 true (turns_of Dial true (at two_policies.identities.rows 1) None two_policies.services.rows two_policies.service_policies.rows))

none_up : (left right : Bool) → ◌≡◌ {A = ℕ} 0 (cond (not (left && right) && false) 1 0)
none_up true true = refl
none_up true false = refl
none_up false right = refl

one_down : (left right : Bool) → 0 + cond (left && right) 1 0 ≡ cond (((left || false) && (right || false)) && true) 1 0
one_down true true = refl
one_down true false = refl
one_down false right = refl

pub returns-clause-one_step : goal.returns-clause-one_step
returns-clause-one_step c =
    policy_leads Dial 1 (at two_policies.service_policies.rows 1) None two_policies (record two_policies { service_policies = with_removed 1 two_policies.service_policies })
    (record { a = 1; b = 1; up = false } ∷ []) (returns-clause-a_policy c) (λ a b. none_up ((1 == a) || false) ((1 == b) || false)) (λ a b. one_down (1 == a) (1 == b))

pub returns-clause-one_step_is_too_few : goal.returns-clause-one_step_is_too_few
returns-clause-one_step_is_too_few c led = too_few (led.moves 1 1)
  where
    too_few : 0 + 1 ≡ 2 + 0 → ⊥
    too_few e = absurd (omega arith)
