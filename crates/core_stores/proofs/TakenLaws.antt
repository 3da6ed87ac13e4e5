-- The counts of all relations took their steps where those of each did.
use Rattle.ctrl_model.specs.declared.kinds.Relation.{Relation}
use Rattle.ctrl_model.specs.declared.kinds.Relation.TheVariants.{Dial, Bind, IdentityRouter, ServiceRouter}
use Rattle.policy_store.specs.declared.steps.GrantSteps.{GrantSteps}
use Rattle.policy_store.specs.StepsOfRelations.{steps_of}
use Rattle.core_stores.specs.declared.stores.Grants.{Grants}
use Rattle.core_stores.specs.StoredState.{counts_of}
use Rattle.grant_denorm.specs.PairCounts.{count_of}
use Rattle.grant_denorm.specs.TakenSteps.{Taken}

pub taken_by_relation : (old new : Grants) (steps : GrantSteps) → Taken old.dial (count_of new.dial) steps.dial.items → Taken old.bind (count_of new.bind) steps.bind.items
    → Taken old.identity_router (count_of new.identity_router) steps.identity_router.items → Taken old.service_router (count_of new.service_router) steps.service_router.items
    → (r : Relation) → Taken (counts_of r old) (count_of (counts_of r new)) (steps_of r steps)
taken_by_relation old new steps dial bind identity_router service_router Dial = dial
taken_by_relation old new steps dial bind identity_router service_router Bind = bind
taken_by_relation old new steps dial bind identity_router service_router IdentityRouter = identity_router
taken_by_relation old new steps dial bind identity_router service_router ServiceRouter = service_router
