-- When steps lead the grant counts of one state to those of another (docs/PROMISES.md, "The steps of counts").
use Rattle.ctrl_model.specs.declared.kinds.Relation.{Relation}
use Rattle.ctrl_model.specs.State.{State}
use Rattle.ctrl_model.specs.Grants.{count}
use Rattle.ctrl_model.specs.ValidState.{ValidState}
use Rattle.grant_moves.specs.CountMoves.{LeadCounts}
use Rattle.policy_store.specs.declared.changes.PolicyChange.{PolicyChange}
use Rattle.policy_store.specs.declared.steps.GrantSteps.{GrantSteps}
use Rattle.policy_store.specs.PolicyChanges.{CanRule, ruled}
use Rattle.policy_store.specs.StepsOfRelations.{steps_of}

-- Steps that lead the grant counts of one state to those of another.
abbrev pub LeadAllCounts : State → State → GrantSteps → Type 0
LeadAllCounts s t steps = (r : Relation) → LeadCounts (count r s) (count r t) (steps_of r steps)

-- Steps that lead the grant counts of a valid state to those after a change of its policies that can be made there.
abbrev pub LeadRuled : PolicyChange → State → GrantSteps → Type 0
LeadRuled c s steps = ValidState s → CanRule c s → LeadAllCounts s (ruled c s) steps
