-- The steps that grant counts take, by the relation (docs/RULES.md, "Policies and grants").
use Rattle.std.specs.Prelude.{◌≡◌, Bool, ◌&&◌, List, []}
use Rattle.std.specs.List.{list_all}
use Rattle.ctrl_model.specs.declared.kinds.Relation.{Relation}
use Rattle.ctrl_model.specs.declared.kinds.Relation.TheVariants.{Dial, Bind, IdentityRouter, ServiceRouter}
use Rattle.grant_denorm.specs.declared.deltas.Delta.{Delta}
use Rattle.policy_store.specs.declared.steps.GrantSteps.{GrantSteps}

-- The steps of a relation.
abbrev pub steps_of : Relation → GrantSteps → List Delta
steps_of Dial steps = steps.dial.items
steps_of Bind steps = steps.bind.items
steps_of IdentityRouter steps = steps.identity_router.items
steps_of ServiceRouter steps = steps.service_router.items

-- No count takes a step.
pub record HasNoSteps (steps : GrantSteps) : Type 0 where
  pub dial : steps.dial.items ≡ []
  pub bind : steps.bind.items ≡ []
  pub identity_router : steps.identity_router.items ≡ []
  pub service_router : steps.service_router.items ≡ []

-- No step goes down.
abbrev pub only_rise : List Delta → Bool
only_rise ds = list_all (λ d. d.up) ds

-- Steps take from no count.
abbrev pub takes_nothing : GrantSteps → Bool
takes_nothing steps = only_rise steps.dial.items && (only_rise steps.bind.items && (only_rise steps.identity_router.items && only_rise steps.service_router.items))
