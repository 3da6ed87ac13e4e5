use Rattle.std.proofs.Common.{Some, ap, sym, ◌∙◌}
use Rattle.entity_store.proofs.KeptLaws.{on_err}
use Rattle.ctrl_model.specs.declared.kinds.Kind.TheVariants as kind
use Rattle.model_laws.specs.Plans.{tells_change}
use Rattle.ctrl_model.specs.EntityCommands.{update_router}
use Rattle.entity_commands.specs.EntityPlans.{TellsChange}
use Rattle.entity_commands.proofs.EntityPlans.{number_from_found, absent_from_found, there_from_number, found_seen, update_router_unknown, update_router_refused, update_router_planned}
use Rattle.entity_commands.proofs.planning.plan_update_router.Goals as goal

pub refusal_of_describe-requires-clause-there : goal.refusal_of_describe-requires-clause-there
refusal_of_describe-requires-clause-there c =
    there_from_number kind.Router c.args.name.now c.args.entities.now c.in-Ok.number
    (number_from_found kind.Router c.args.name.now c.args.entities.now c.in-Ok.number (sym c.in-Ok.is ∙ c.find.ensures.found))

pub returns-in_default-clause-plan : goal.returns-in_default-clause-plan
returns-in_default-clause-plan c = λ s valid held.
    rw (c.unknown_name.ensures)
    (update_router_unknown c.args.name.now c.args.attributes.now c.args.cost c.args.no_traversal (record { entities = c.args.entities.now; rest = s })
    (absent_from_found kind.Router c.args.name.now c.args.entities.now c.in_default.field-0 (sym c.in_default.is ∙ c.find.ensures.found)))

pub returns-in-Some-clause-plan : goal.returns-in-Some-clause-plan
returns-in-Some-clause-plan c = λ s valid held.
    rw (c.refused.ensures)
    (update_router_refused c.args.name.now c.args.attributes.now c.args.cost c.args.no_traversal (record { entities = c.args.entities.now; rest = s }) c.in-Ok.number c.in-Some.refusal
    (record { valid = valid; held = held })
    (number_from_found kind.Router c.args.name.now c.args.entities.now c.in-Ok.number (sym c.in-Ok.is ∙ c.find.ensures.found)) c.in-Some.ensures)

pub unreachable-requires : goal.unreachable-requires
unreachable-requires c =
    found_seen c.args.name.now c.args.entities.now c.in-Ok.number
    (number_from_found kind.Router c.args.name.now c.args.entities.now c.in-Ok.number (sym c.in-Ok.is ∙ c.find.ensures.found)) (sym c.in_default-router.is ∙ c.router.ensures)

pub returns-clause-plan : goal.returns-clause-plan
returns-clause-plan c = λ s valid held.
    rw (c.changed.ensures, c.in_ok-attributes.ensures)
    (update_router_planned c.args.name.now c.args.attributes.now c.args.cost c.args.no_traversal (record { entities = c.args.entities.now; rest = s }) c.in-Ok.number _
    (record { valid = valid; held = held })
    (number_from_found kind.Router c.args.name.now c.args.entities.now c.in-Ok.number (sym c.in-Ok.is ∙ c.find.ensures.found))
    (sym c.in_default-refusal_of_describe.is ∙ c.refusal_of_describe.ensures) (ap Some c.router-2.view_is ∙ sym c.in-Some-router.is ∙ c.router.ensures))

pub returns-in_err-attributes-clause-memory : goal.returns-in_err-attributes-clause-memory
returns-in_err-attributes-clause-memory c = on_err _ (TellsChange (update_router c.args.name.now c.args.attributes.now c.args.cost c.args.no_traversal) c.args.entities.now) (λ s valid held.
    ap tells_change (sym (update_router_planned c.args.name.now c.args.attributes.now c.args.cost c.args.no_traversal (record { entities = c.args.entities.now; rest = s }) c.in-Ok.number _
    (record { valid = valid; held = held })
    (number_from_found kind.Router c.args.name.now c.args.entities.now c.in-Ok.number (sym c.in-Ok.is ∙ c.find.ensures.found))
    (sym c.in_default-refusal_of_describe.is ∙ c.refusal_of_describe.ensures) (sym c.in-Some-router.is ∙ c.router.ensures)).reply))
