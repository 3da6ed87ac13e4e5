use Rattle.std.proofs.Common.{sym, ◌∙◌, ap}
use Rattle.entity_store.proofs.KeptLaws.{on_err}
use Rattle.model_laws.specs.Plans.{tells_change}
use Rattle.entity_commands.specs.PlannedEntities.{answer_update}
use Rattle.entity_commands.specs.EntityPlans.{TellsChange}
use Rattle.entity_commands.proofs.EntityPlans.{number_from_found, absent_from_found, there_from_number, update_unknown, update_refused, update_planned}
use Rattle.entity_commands.proofs.planning.plan_update.Goals as goal

pub refusal_of_describe-requires-clause-there : goal.refusal_of_describe-requires-clause-there
refusal_of_describe-requires-clause-there c =
    there_from_number c.args.kind c.args.name.now c.args.entities.now c.in-Ok.number
    (number_from_found c.args.kind c.args.name.now c.args.entities.now c.in-Ok.number (sym c.in-Ok.is ∙ c.find.ensures.found))

pub returns-in_default-clause-plan : goal.returns-in_default-clause-plan
returns-in_default-clause-plan c = λ s valid held.
    rw (c.unknown_name.ensures)
    (update_unknown c.args.kind c.args.name.now c.args.attributes.now (record { entities = c.args.entities.now; rest = s }) c.requires
    (absent_from_found c.args.kind c.args.name.now c.args.entities.now c.in_default.field-0 (sym c.in_default.is ∙ c.find.ensures.found)))

pub returns-in-Some-clause-plan : goal.returns-in-Some-clause-plan
returns-in-Some-clause-plan c = λ s valid held.
    rw (c.refused.ensures)
    (update_refused c.args.kind c.args.name.now c.args.attributes.now (record { entities = c.args.entities.now; rest = s }) c.in-Ok.number c.in-Some.refusal c.requires
    (record { valid = valid; held = held })
    (number_from_found c.args.kind c.args.name.now c.args.entities.now c.in-Ok.number (sym c.in-Ok.is ∙ c.find.ensures.found)) c.in-Some.ensures)

pub returns-clause-plan : goal.returns-clause-plan
returns-clause-plan c = λ s valid held.
    rw (c.changed.ensures, c.in_ok-attributes.ensures)
    (update_planned c.args.kind c.args.name.now c.args.attributes.now (record { entities = c.args.entities.now; rest = s }) c.in-Ok.number c.requires
    (record { valid = valid; held = held })
    (number_from_found c.args.kind c.args.name.now c.args.entities.now c.in-Ok.number (sym c.in-Ok.is ∙ c.find.ensures.found))
    (sym c.in_default-refusal_of_describe.is ∙ c.refusal_of_describe.ensures))

pub returns-in_err-attributes-clause-memory : goal.returns-in_err-attributes-clause-memory
returns-in_err-attributes-clause-memory c = on_err _ (TellsChange (answer_update c.args.kind c.args.name.now c.args.attributes.now) c.args.entities.now) (λ s valid held.
    ap tells_change (sym (update_planned c.args.kind c.args.name.now c.args.attributes.now (record { entities = c.args.entities.now; rest = s }) c.in-Ok.number c.requires
    (record { valid = valid; held = held })
    (number_from_found c.args.kind c.args.name.now c.args.entities.now c.in-Ok.number (sym c.in-Ok.is ∙ c.find.ensures.found))
    (sym c.in_default-refusal_of_describe.is ∙ c.refusal_of_describe.ensures)).reply))
