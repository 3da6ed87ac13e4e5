use Rattle.std.proofs.Common.{sym, subst}
use Rattle.std.proofs.lemmas.Result.{IfOk-weaker}
use Rattle.entity_store.specs.declared.changes.EntityChange.{EntityChange}
use Rattle.entity_commands.specs.EntityChanges.{CanEnter, entered}
use Rattle.grant_steps.specs.LeadingSteps.{LeadAllCounts}
use Rattle.core_stores.specs.StoredState.{state_of}
use Rattle.ctrl_core.proofs.CountedChanges.{plain_comes, router_comes, plain_described, router_described, router_marked, entity_goes, plain_is_there, plain_is_entity, named_is_there}
use Rattle.ctrl_core.proofs.counting.entity_change_steps.Goals as goal

pub coming_steps-requires : goal.coming_steps-requires
coming_steps-requires c = plain_is_entity c.in-Add.kind (subst (λ (e : EntityChange). CanEnter e (state_of c.args.stores.now)) c.in-Add.is c.requires.can)

pub described_steps-requires-clause-kind : goal.described_steps-requires-clause-kind
described_steps-requires-clause-kind c = plain_is_entity c.in-Describe.kind (subst (λ (e : EntityChange). CanEnter e (state_of c.args.stores.now)) c.in-Describe.is c.requires.can).0

pub described_steps-requires-clause-there : goal.described_steps-requires-clause-there
described_steps-requires-clause-there c =
    let can = (subst (λ (e : EntityChange). CanEnter e (state_of c.args.stores.now)) c.in-Describe.is c.requires.can) in
    plain_is_there c.in-Describe.kind c.in-Describe.number c.args.stores.now can.0 can.1

pub described_router_steps-requires : goal.described_router_steps-requires
described_router_steps-requires c = (subst (λ (e : EntityChange). CanEnter e (state_of c.args.stores.now)) c.in-DescribeRouter.is c.requires.can)

pub going_steps-requires-clause-kind : goal.going_steps-requires-clause-kind
going_steps-requires-clause-kind c = (subst (λ (e : EntityChange). CanEnter e (state_of c.args.stores.now)) c.in-Remove.is c.requires.can).0

pub going_steps-requires-clause-there : goal.going_steps-requires-clause-there
going_steps-requires-clause-there c =
    let can = (subst (λ (e : EntityChange). CanEnter e (state_of c.args.stores.now)) c.in-Remove.is c.requires.can) in
    named_is_there c.in-Remove.kind c.in-Remove.number c.in-Remove.name c.args.stores.now can.0 can.1

pub returns-in-Add : goal.returns-in-Add
returns-in-Add c = IfOk-weaker c.coming_steps.result _ _ (λ steps is.
    subst (λ (e : EntityChange). LeadAllCounts (state_of c.args.stores.now) (entered e (state_of c.args.stores.now)) steps) (sym c.in-Add.is)
    (plain_comes c.in-Add.kind c.in-Add.name c.in-Add.attributes c.args.stores.now steps (subst (λ (e : EntityChange). CanEnter e (state_of c.args.stores.now)) c.in-Add.is c.requires.can) c.requires.kept is)) c.coming_steps.ensures

pub returns-in-AddRouter : goal.returns-in-AddRouter
returns-in-AddRouter c = IfOk-weaker c.coming_router_steps.result _ _ (λ steps is.
    subst (λ (e : EntityChange). LeadAllCounts (state_of c.args.stores.now) (entered e (state_of c.args.stores.now)) steps) (sym c.in-AddRouter.is)
    (router_comes c.in-AddRouter.name c.in-AddRouter.attributes c.in-AddRouter.cost c.in-AddRouter.through c.args.stores.now steps c.requires.kept is)) c.coming_router_steps.ensures

pub returns-in-Describe : goal.returns-in-Describe
returns-in-Describe c = IfOk-weaker c.described_steps.result _ _ (λ steps is.
    subst (λ (e : EntityChange). LeadAllCounts (state_of c.args.stores.now) (entered e (state_of c.args.stores.now)) steps) (sym c.in-Describe.is)
    (plain_described c.in-Describe.kind c.in-Describe.number c.in-Describe.attributes c.args.stores.now steps (subst (λ (e : EntityChange). CanEnter e (state_of c.args.stores.now)) c.in-Describe.is c.requires.can).0 c.requires.kept is)) c.described_steps.ensures

pub returns-in-DescribeRouter : goal.returns-in-DescribeRouter
returns-in-DescribeRouter c = IfOk-weaker c.described_router_steps.result _ _ (λ steps is.
    subst (λ (e : EntityChange). LeadAllCounts (state_of c.args.stores.now) (entered e (state_of c.args.stores.now)) steps) (sym c.in-DescribeRouter.is)
    (router_described c.in-DescribeRouter.number c.in-DescribeRouter.attributes c.in-DescribeRouter.cost c.in-DescribeRouter.through c.in-DescribeRouter.connected c.args.stores.now steps c.requires.kept is)) c.described_router_steps.ensures

pub returns-in-Remove : goal.returns-in-Remove
returns-in-Remove c = IfOk-weaker c.going_steps.result _ _ (λ steps is.
    subst (λ (e : EntityChange). LeadAllCounts (state_of c.args.stores.now) (entered e (state_of c.args.stores.now)) steps) (sym c.in-Remove.is)
    (entity_goes c.in-Remove.kind c.in-Remove.number c.in-Remove.name c.args.stores.now steps (subst (λ (e : EntityChange). CanEnter e (state_of c.args.stores.now)) c.in-Remove.is c.requires.can).0 (subst (λ (e : EntityChange). CanEnter e (state_of c.args.stores.now)) c.in-Remove.is c.requires.can).1 c.requires.kept is)) c.going_steps.ensures

pub returns-in-Mark : goal.returns-in-Mark
returns-in-Mark c =
    subst (λ (e : EntityChange). LeadAllCounts (state_of c.args.stores.now) (entered e (state_of c.args.stores.now)) c.none.result) (sym c.in-Mark.is)
    (router_marked c.in-Mark.number c.in-Mark.cost c.in-Mark.through c.in-Mark.connected c.args.stores.now c.none.result c.none.ensures)
