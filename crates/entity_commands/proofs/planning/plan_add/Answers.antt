use Rattle.std.proofs.Common.{sym, ◌∙◌, ap}
use Rattle.entity_store.proofs.KeptLaws.{on_err}
use Rattle.model_laws.specs.Plans.{tells_change}
use Rattle.entity_commands.specs.PlannedEntities.{answer_add}
use Rattle.entity_commands.specs.EntityPlans.{TellsChange}
use Rattle.entity_commands.proofs.EntityPlans.{add_refused, add_planned}
use Rattle.entity_commands.proofs.planning.plan_add.Goals as goal

pub returns-in-Some-clause-plan : goal.returns-in-Some-clause-plan
returns-in-Some-clause-plan c = λ s valid held.
    rw (c.refused.ensures) (add_refused c.args.kind c.args.name.now c.args.attributes.now (record { entities = c.args.entities.now; rest = s }) c.in-Some.refusal c.requires held c.in-Some.ensures)

pub returns-clause-plan : goal.returns-clause-plan
returns-clause-plan c = λ s valid held.
    rw (c.changed.ensures, c.in_ok-name.ensures, c.in_ok-attributes.ensures)
    (add_planned c.args.kind c.args.name.now c.args.attributes.now (record { entities = c.args.entities.now; rest = s }) c.next-number.result c.requires held
    (sym c.in_default.is ∙ c.refusal_of_add.ensures) c.next-number.ensures.next)

pub returns-in_err-name-clause-memory : goal.returns-in_err-name-clause-memory
returns-in_err-name-clause-memory c = on_err _ (TellsChange (answer_add c.args.kind c.args.name.now c.args.attributes.now) c.args.entities.now) (λ s valid held.
    ap tells_change (sym (add_planned c.args.kind c.args.name.now c.args.attributes.now (record { entities = c.args.entities.now; rest = s }) c.next-number.result c.requires held
    (sym c.in_default.is ∙ c.refusal_of_add.ensures) c.next-number.ensures.next).reply))

pub returns-in_err-attributes-clause-memory : goal.returns-in_err-attributes-clause-memory
returns-in_err-attributes-clause-memory c = on_err _ (TellsChange (answer_add c.args.kind c.args.name.now c.args.attributes.now) c.args.entities.now) (λ s valid held.
    ap tells_change (sym (add_planned c.args.kind c.args.name.now c.args.attributes.now (record { entities = c.args.entities.now; rest = s }) c.next-number.result c.requires held
    (sym c.in_default.is ∙ c.refusal_of_add.ensures) c.next-number.ensures.next).reply))
