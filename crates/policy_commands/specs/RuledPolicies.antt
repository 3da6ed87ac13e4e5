-- What making a change of policies needs and leaves (docs/PROMISES.md, "Commands on policies").
use Rattle.std.specs.Prelude.{◌≡◌, ℕ, ◌++◌, Some}
use Rattle.ctrl_model.specs.declared.kinds.Kind.{Kind}
use Rattle.ctrl_model.specs.Numbered.{at}
use Rattle.ctrl_model.specs.Settling.{settle}
use Rattle.ctrl_model.specs.State.{State, Policy}
use Rattle.ctrl_model.specs.ValidState.{ValidState}
use Rattle.entity_store.specs.AttributeUses.{LetsGo}
use Rattle.entity_store.specs.EntityTables.{Tables}
use Rattle.policy_store.specs.declared.changes.PolicyChange.{PolicyChange}
use Rattle.policy_store.specs.PolicyChanges.{after_policy_change, ruled}
use Rattle.policy_store.specs.PolicyTables.{PolicyTables, policies}
use Rattle.policy_commands.specs.PolicyStates.{HoldsUses, over}

-- A change leads, once settled, from a valid state with these entities and these policies to a valid one.
pub record LeadsOn (c : PolicyChange) (t : Tables) (p : PolicyTables) : Type 0 where
  pub rest : State
  pub before : ValidState (over t p rest)
  pub after : ValidState (settle (ruled c (over t p rest)))

-- The policies are those after a change, the entities are as they were, and the uses that are held beside theirs are those of the
-- policies.
pub record Rules (c : PolicyChange) (old new : Tables) (before after : PolicyTables) : Type 0 where
  pub policies_are : after ≡ after_policy_change c before
  pub entities_stay : record new { held = old.held } ≡ old
  pub held : HoldsUses new after

-- The uses of one policy's attributes are let go, and all else stays.
pub record LetsPolicyGo (k : Kind) (n : ℕ) (p : PolicyTables) (old new : Tables) : Type 0 where
  pub policy : Policy
  pub stands : at (policies k p) n ≡ Some policy
  pub uses_go : LetsGo (policy.left.attributes ++ policy.right.attributes) old new
