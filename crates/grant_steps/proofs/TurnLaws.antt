-- The policies and the entities of a relation in a store, and in the state that has them.
use Rattle.std.proofs.Common.{◌≡◌, ℕ, true, false, Bool, List, refl, ap₂}
use Rattle.ctrl_model.specs.declared.kinds.Relation.{Relation}
use Rattle.ctrl_model.specs.declared.kinds.Relation.TheVariants.{Dial, Bind, IdentityRouter, ServiceRouter}
use Rattle.ctrl_model.specs.State.{Entity, Policy}
use Rattle.ctrl_model.specs.Grants.{policies_for}
use Rattle.entity_store.specs.EntityTables.{Tables, entities}
use Rattle.grant_moves.specs.EntitySides.{other_rows}
use Rattle.grant_moves.specs.GrantTurns.{turns_of}
use Rattle.policy_store.specs.PolicyTables.{PolicyTables, policies}
use Rattle.grant_steps.specs.GrantKinds.{policy_kind, other_kind}
use Rattle.grant_steps.specs.GrantChanges.{MovedEntity, granting_state}

-- the policies of a kind are those of a relation, and the entities of a kind those of its other side
same_policies : (r : Relation) (t : Tables) (p : PolicyTables) → policies (policy_kind r) p ≡ policies_for r (granting_state t p)
same_policies Dial t p = refl
same_policies Bind t p = refl
same_policies IdentityRouter t p = refl
same_policies ServiceRouter t p = refl

same_others : (on_left : Bool) (r : Relation) (t : Tables) (p : PolicyTables) → entities (other_kind on_left r) t ≡ other_rows on_left r (granting_state t p)
same_others true Dial t p = refl
same_others true Bind t p = refl
same_others true IdentityRouter t p = refl
same_others true ServiceRouter t p = refl
same_others false Dial t p = refl
same_others false Bind t p = refl
same_others false IdentityRouter t p = refl
same_others false ServiceRouter t p = refl

-- the turns of the policies of a relation
pub same_turns : (r : Relation) (on_left : Bool) (m : MovedEntity) (t : Tables) (p : PolicyTables)
    → turns_of r on_left m.before m.after (entities (other_kind on_left r) t) (policies (policy_kind r) p)
    ≡ turns_of r on_left m.before m.after (other_rows on_left r (granting_state t p)) (policies_for r (granting_state t p))
same_turns r on_left m t p = ap₂ (λ (others : List (ℕ × Entity)) (ps : List (ℕ × Policy)). turns_of r on_left m.before m.after others ps) (same_others on_left r t p) (same_policies r t p)
