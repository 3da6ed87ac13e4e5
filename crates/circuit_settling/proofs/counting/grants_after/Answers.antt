use Rattle.std.proofs.Common.{◌≡◌, sym, subst}
use Rattle.ctrl_model.specs.declared.kinds.Relation.{Relation}
use Rattle.grant_denorm.specs.TakenSteps.{HaveRoom, Taken}
use Rattle.policy_store.specs.StepsOfRelations.{steps_of}
use Rattle.circuit_settling.specs.declared.emptying.Pairs.{Pairs}
use Rattle.circuit_settling.specs.EmptiedPairs.{counts_after, pairs_before, pairs_of}
use Rattle.circuit_settling.proofs.counting.grants_after.Goals as goal

pub set_steps-requires : goal.set_steps-requires
set_steps-requires c = λ (r : Relation).
    let pairs : Pairs = record { dial = c.args.dial.now; bind = c.args.bind.now; identity_router = c.args.identity_router.now; service_router = c.args.service_router.now } in
    let before : pairs_before (record { dial = c.unchanged.result; bind = c.unchanged-2.result; identity_router = c.unchanged-3.result; service_router = c.unchanged-4.result }) ≡ pairs =
    λ i. pairs_before (record { dial = c.unchanged.ensures i; bind = c.unchanged-2.ensures i; identity_router = c.unchanged-3.ensures i; service_router = c.unchanged-4.ensures i }) in
    subst (λ (g : Pairs). HaveRoom (pairs_of r g) (steps_of r c.args.steps.now)) (sym before) (c.requires r)

pub returns : goal.returns
returns c = λ (r : Relation).
    let pairs : Pairs = record { dial = c.args.dial.now; bind = c.args.bind.now; identity_router = c.args.identity_router.now; service_router = c.args.service_router.now } in
    let before : pairs_before (record { dial = c.unchanged.result; bind = c.unchanged-2.result; identity_router = c.unchanged-3.result; service_router = c.unchanged-4.result }) ≡ pairs =
    λ i. pairs_before (record { dial = c.unchanged.ensures i; bind = c.unchanged-2.ensures i; identity_router = c.unchanged-3.ensures i; service_router = c.unchanged-4.ensures i }) in
    subst (λ (g : Pairs). Taken (pairs_of r g) (counts_after r c.set_steps.new.grants) (steps_of r c.args.steps.now)) before (c.in_ok-set_steps.ensures r)
