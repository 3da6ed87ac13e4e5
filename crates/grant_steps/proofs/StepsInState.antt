-- The steps that are told of entities and policies alone are those of a state that has them.
use Rattle.std.proofs.Common.{◌≡◌, ℕ, Bool, true, false, cond, List, Option, None, Some, refl, ◌∙◌, ap₂}
use Rattle.ctrl_model.specs.declared.kinds.Kind.{Kind}
use Rattle.ctrl_model.specs.declared.kinds.Relation.{Relation}
use Rattle.ctrl_model.specs.declared.kinds.Relation.TheVariants.{Dial, Bind, IdentityRouter, ServiceRouter}
use Rattle.ctrl_model.specs.State.{State, Entity, Policy}
use Rattle.ctrl_model.specs.Grants.{same_relation, policies_for}
use Rattle.grant_denorm.specs.declared.deltas.Cross.{Cross}
use Rattle.grant_denorm.specs.declared.deltas.Delta.{Delta}
use Rattle.grant_denorm.specs.Deltas.{policy_ups, policy_downs, entity_ups, entity_downs}
use Rattle.grant_moves.specs.EntitySides.{left_rows, right_rows, other_rows, members_of}
use Rattle.grant_moves.specs.GrantTurns.{turns_of, cross_of, no_cross}
use Rattle.policy_store.specs.declared.steps.GrantSteps.{GrantSteps}
use Rattle.policy_store.specs.PolicyChanges.{with_tables}
use Rattle.policy_store.specs.PolicyTables.{PolicyTables, no_policies, fits}
use Rattle.entity_store.specs.EntityTables.{Tables}
use Rattle.entity_store.specs.HeldUses.{with_entities}
use Rattle.grant_steps.specs.GrantChanges.{MovedEntity, granting_state, stands_in, AreEntitySteps, AreStepsAt, StepsOfEntity, ArePolicyStepsAt, StepsOfPolicy}

-- ---- of an entity

entity_steps_with : (r : Relation) (l : Bool) (x : ℕ) (m : MovedEntity) (s t : State) (ds : List Delta) → other_rows l r s ≡ other_rows l r t → policies_for r s ≡ policies_for r t
    → AreEntitySteps r l x m s ds → AreEntitySteps r l x m t ds
entity_steps_with r l x m s t ds others policies steps = record {
  up = λ a b. steps.up a b ∙ ap₂ (λ (os : List (ℕ × Entity)) (ps : List (ℕ × Policy)). entity_ups x l (turns_of r l m.before m.after os ps) a b) others policies;
  down = λ a b. steps.down a b ∙ ap₂ (λ (os : List (ℕ × Entity)) (ps : List (ℕ × Policy)). entity_downs x l (turns_of r l m.before m.after os ps) a b) others policies;
}

entity_steps_at : (o : Option Bool) (r : Relation) (x : ℕ) (m : MovedEntity) (s t : State) (ds : List Delta) → left_rows r s ≡ left_rows r t → right_rows r s ≡ right_rows r t
    → policies_for r s ≡ policies_for r t → AreStepsAt o r x m s ds → AreStepsAt o r x m t ds
entity_steps_at None r x m s t ds left right policies steps = steps
entity_steps_at (Some true) r x m s t ds left right policies steps = entity_steps_with r true x m s t ds right policies steps
entity_steps_at (Some false) r x m s t ds left right policies steps = entity_steps_with r false x m s t ds left policies steps

pub entity_steps_in_state : (k : Kind) (x : ℕ) (m : MovedEntity) (t : Tables) (p : PolicyTables) (s : State) (steps : GrantSteps) → StepsOfEntity k x m (granting_state t p) steps
    → StepsOfEntity k x m (with_entities t (with_tables p s)) steps
entity_steps_in_state k x m t p s steps is =
    let out = granting_state t p in
    let around = with_entities t (with_tables p s) in
    record {
      dial = entity_steps_at (stands_in Dial k) Dial x m out around steps.dial.items refl refl refl is.dial;
      bind = entity_steps_at (stands_in Bind k) Bind x m out around steps.bind.items refl refl refl is.bind;
      identity_router = entity_steps_at (stands_in IdentityRouter k) IdentityRouter x m out around steps.identity_router.items refl refl refl is.identity_router;
      service_router = entity_steps_at (stands_in ServiceRouter k) ServiceRouter x m out around steps.service_router.items refl refl refl is.service_router;
    }

-- ---- of a policy

same_cross : (r : Relation) (s t : State) (p : Option Policy) → left_rows r s ≡ left_rows r t → right_rows r s ≡ right_rows r t → cross_of r s p ≡ cross_of r t p
same_cross r s t None left right = refl
same_cross r s t (Some p) left right = ap₂ (λ (ls : List (ℕ × Entity)) (rs : List (ℕ × Entity)). cond (same_relation r p.relation)
    (let c : Cross = record { left = members_of p.left p.semantic ls; right = members_of p.right p.semantic rs } in c) no_cross) left right

policy_steps_at : (fit : Bool) (r : Relation) (before after : Option Policy) (s t : State) (ds : List Delta) → left_rows r s ≡ left_rows r t → right_rows r s ≡ right_rows r t
    → ArePolicyStepsAt fit r before after s ds → ArePolicyStepsAt fit r before after t ds
policy_steps_at false r before after s t ds left right steps = steps
policy_steps_at true r before after s t ds left right steps = record {
  up = λ a b. steps.up a b ∙ ap₂ (λ (c : Cross) (d : Cross). policy_ups c d a b) (same_cross r s t before left right) (same_cross r s t after left right);
  down = λ a b. steps.down a b ∙ ap₂ (λ (c : Cross) (d : Cross). policy_downs c d a b) (same_cross r s t before left right) (same_cross r s t after left right);
}

pub policy_steps_in_state : (k : Kind) (before after : Option Policy) (t : Tables) (p : PolicyTables) (s : State) (steps : GrantSteps)
    → StepsOfPolicy k before after (granting_state t no_policies) steps → StepsOfPolicy k before after (with_entities t (with_tables p s)) steps
policy_steps_in_state k before after t p s steps is =
    let out = granting_state t no_policies in
    let around = with_entities t (with_tables p s) in
    record {
      dial = policy_steps_at (fits k Dial) Dial before after out around steps.dial.items refl refl is.dial;
      bind = policy_steps_at (fits k Bind) Bind before after out around steps.bind.items refl refl is.bind;
      identity_router = policy_steps_at (fits k IdentityRouter) IdentityRouter before after out around steps.identity_router.items refl refl is.identity_router;
      service_router = policy_steps_at (fits k ServiceRouter) ServiceRouter before after out around steps.service_router.items refl refl is.service_router;
    }
