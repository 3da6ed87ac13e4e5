-- Which steps of the grant counts a change of an entity or of a policy makes (docs/RULES.md, "Policies and grants").
use Rattle.std.specs.Prelude.{◌≡◌, ℕ, Bool, true, false, List, [], None, Some, option_map}
use Rattle.std.specs.declared.option.Option.{Option}
use Rattle.ctrl_model.specs.declared.kinds.Kind.{Kind}
use Rattle.ctrl_model.specs.declared.kinds.Kind.TheVariants as kind
use Rattle.ctrl_model.specs.declared.kinds.Relation.{Relation}
use Rattle.ctrl_model.specs.declared.kinds.Relation.TheVariants.{Dial, Bind, IdentityRouter, ServiceRouter}
use Rattle.ctrl_model.specs.State.{State, Entity, Policy, start}
use Rattle.ctrl_model.specs.Grants.{policies_for}
use Rattle.grant_denorm.specs.declared.deltas.Delta.{Delta}
use Rattle.grant_denorm.specs.Deltas.{ups, downs, policy_ups, policy_downs, entity_ups, entity_downs}
use Rattle.grant_moves.specs.EntitySides.{other_rows}
use Rattle.grant_moves.specs.GrantTurns.{turns_of, cross_of}
use Rattle.entity_store.specs.EntityTables.{Tables}
use Rattle.policy_store.specs.PolicyTables.{PolicyTables, fits}
use Rattle.policy_store.specs.declared.steps.GrantSteps.{GrantSteps}

-- The state that has some entities and policies, and else is as at the start.
abbrev pub granting_state : Tables → PolicyTables → State
granting_state t p = record start {
  identities = t.identities;
  services = t.services;
  routers = t.routers;
  service_policies = p.service_policies;
  edge_router_policies = p.edge_router_policies;
  service_edge_router_policies = p.service_edge_router_policies;
}

-- An entity before a change and after it, absent where it is not there.
pub record MovedEntity : Type 0 where
  pub before : Option Entity
  pub after : Option Entity

-- An entity of a name, if it is there with some attributes.
abbrev pub entity_if : List ℕ → Option (List (List ℕ)) → Option Entity
entity_if name attributes = option_map (λ a. record { name = name; attributes = a }) attributes

-- On which side of a relation entities of a kind stand, if they do: true on the left.
abbrev pub stands_in : Relation → Kind → Option Bool
stands_in Dial kind.Identity = Some true
stands_in Dial kind.Service = Some false
stands_in Bind kind.Identity = Some true
stands_in Bind kind.Service = Some false
stands_in IdentityRouter kind.Identity = Some true
stands_in IdentityRouter kind.Router = Some false
stands_in ServiceRouter kind.Service = Some true
stands_in ServiceRouter kind.Router = Some false
stands_in _ _ = None

-- The steps of a change of an entity on one side of a relation: one for each turn and each of its partners.
pub record AreEntitySteps (r : Relation) (on_left : Bool) (x : ℕ) (m : MovedEntity) (s : State) (ds : List Delta) : Type 0 where
  pub up : (a b : ℕ) → ups ds a b ≡ entity_ups x on_left (turns_of r on_left m.before m.after (other_rows on_left r s) (policies_for r s)) a b
  pub down : (a b : ℕ) → downs ds a b ≡ entity_downs x on_left (turns_of r on_left m.before m.after (other_rows on_left r s) (policies_for r s)) a b

-- The steps of a change of an entity, if its kind stands in the relation.
abbrev pub AreStepsAt : Option Bool → Relation → ℕ → MovedEntity → State → List Delta → Type 0
AreStepsAt None r x m s ds = ds ≡ []
AreStepsAt (Some on_left) r x m s ds = AreEntitySteps r on_left x m s ds

-- The steps of a change of an entity of a kind, for all relations.
pub record StepsOfEntity (k : Kind) (x : ℕ) (m : MovedEntity) (s : State) (steps : GrantSteps) : Type 0 where
  pub dial : AreStepsAt (stands_in Dial k) Dial x m s steps.dial.items
  pub bind : AreStepsAt (stands_in Bind k) Bind x m s steps.bind.items
  pub identity_router : AreStepsAt (stands_in IdentityRouter k) IdentityRouter x m s steps.identity_router.items
  pub service_router : AreStepsAt (stands_in ServiceRouter k) ServiceRouter x m s steps.service_router.items

-- The steps of a change of a policy at a relation: one for each pair that comes into its product or goes out of it.
pub record ArePolicySteps (r : Relation) (before after : Option Policy) (s : State) (ds : List Delta) : Type 0 where
  pub up : (a b : ℕ) → ups ds a b ≡ policy_ups (cross_of r s before) (cross_of r s after) a b
  pub down : (a b : ℕ) → downs ds a b ≡ policy_downs (cross_of r s before) (cross_of r s after) a b

-- The steps of a change of a policy, if its kind can be of the relation.
abbrev pub ArePolicyStepsAt : Bool → Relation → Option Policy → Option Policy → State → List Delta → Type 0
ArePolicyStepsAt false r before after s ds = ds ≡ []
ArePolicyStepsAt true r before after s ds = ArePolicySteps r before after s ds

-- The steps of a change of a policy of a kind, for all relations.
pub record StepsOfPolicy (k : Kind) (before after : Option Policy) (s : State) (steps : GrantSteps) : Type 0 where
  pub dial : ArePolicyStepsAt (fits k Dial) Dial before after s steps.dial.items
  pub bind : ArePolicyStepsAt (fits k Bind) Bind before after s steps.bind.items
  pub identity_router : ArePolicyStepsAt (fits k IdentityRouter) IdentityRouter before after s steps.identity_router.items
  pub service_router : ArePolicyStepsAt (fits k ServiceRouter) ServiceRouter before after s steps.service_router.items
