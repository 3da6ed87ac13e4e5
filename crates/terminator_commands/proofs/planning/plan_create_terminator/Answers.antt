use Rattle.std.proofs.Common.{refl, subst, sym}
use Rattle.std.proofs.lemmas.Result.{IfOk-weaker, on_err_weaker}
use Rattle.std.specs.Option.{option_map}
use Rattle.ctrl_model.specs.State.{Terminator}
use Rattle.ctrl_model.specs.TerminatorCommands.{create_terminator}
use Rattle.terminator_commands.specs.PlannedTerms.{PlansIn}
use Rattle.terminator_commands.proofs.TermPlanLaws.{create_unknown, create_planned, create_told}
use Rattle.terminator_commands.proofs.planning.plan_create_terminator.Goals as goal

pub returns-in-Err-clause-plan : goal.returns-in-Err-clause-plan
returns-in-Err-clause-plan c =
    let st = c.args.stores.now in
    subst (λ p. PlansIn p (create_terminator c.args.service.now c.args.router.now c.args.instance.now c.args.host.now c.args.cost c.args.precedence) st.entities.now st.terminators.now st.bind.now)
    (sym c.refused.ensures)
    (create_unknown st.entities.now st.terminators.now st.bind.now c.args.service.now c.args.router.now c.args.instance.now c.args.host.now c.args.cost c.args.precedence c.in-Err.field c.in-Err.ensures)

pub returns-clause-plan : goal.returns-clause-plan
returns-clause-plan c =
    let st = c.args.stores.now in
    let p = c.in-Ok.places in
    let term : Terminator = record { service = p.service.0; router = p.router.0; instance = c.args.instance.now; host = option_map (λ h. h.0) p.host; cost = c.args.cost; precedence = c.args.precedence } in
    IfOk-weaker c.plan_add.result _ _ (λ q is. subst (λ r. PlansIn r (create_terminator c.args.service.now c.args.router.now c.args.instance.now c.args.host.now c.args.cost c.args.precedence) st.entities.now st.terminators.now st.bind.now)
    (sym is)
    (create_planned st.entities.now st.terminators.now st.bind.now c.args.service.now c.args.router.now c.args.host.now p term c.in-Ok.ensures refl refl refl c.requires))
    c.plan_add.ensures.plan

pub returns-clause-memory : goal.returns-clause-memory
returns-clause-memory c =
    let st = c.args.stores.now in
    let p = c.in-Ok.places in
    let term : Terminator = record { service = p.service.0; router = p.router.0; instance = c.args.instance.now; host = option_map (λ h. h.0) p.host; cost = c.args.cost; precedence = c.args.precedence } in
    on_err_weaker c.plan_add.result
    (create_told st.entities.now st.terminators.now st.bind.now c.args.service.now c.args.router.now c.args.host.now p term c.in-Ok.ensures refl refl refl c.requires)
    c.plan_add.ensures.memory
