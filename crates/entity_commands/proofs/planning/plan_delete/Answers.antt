use Rattle.std.proofs.Common.{sym, ◌∙◌, ap}
use Rattle.entity_store.proofs.KeptLaws.{on_err}
use Rattle.model_laws.specs.Plans.{tells_change}
use Rattle.ctrl_model.specs.RecordCommands.{delete}
use Rattle.ctrl_model.specs.declared.refusals.Field.TheVariants.{Name}
use Rattle.entity_commands.specs.EntityPlans.{TellsChange}
use Rattle.entity_commands.proofs.EntityPlans.{number_from_found, absent_from_found, delete_unknown, delete_planned}
use Rattle.entity_commands.proofs.planning.plan_delete.Goals as goal

pub returns-in_default-clause-plan : goal.returns-in_default-clause-plan
returns-in_default-clause-plan c = λ s valid held.
    rw (c.unknown_name.ensures)
    (delete_unknown c.args.kind c.args.name.now (record { entities = c.args.entities.now; rest = s }) c.requires
    (absent_from_found c.args.kind c.args.name.now c.args.entities.now c.in_default.field-0 (sym c.in_default.is ∙ c.find.ensures.found)))

pub returns-clause-plan : goal.returns-clause-plan
returns-clause-plan c = λ s valid held.
    rw (c.changed.ensures, c.in_ok-name.ensures)
    (delete_planned c.args.kind c.args.name.now (record { entities = c.args.entities.now; rest = s }) c.in-Ok.number c.requires
    (number_from_found c.args.kind c.args.name.now c.args.entities.now c.in-Ok.number (sym c.in-Ok.is ∙ c.find.ensures.found)))

pub returns-in_err-name-clause-memory : goal.returns-in_err-name-clause-memory
returns-in_err-name-clause-memory c = on_err _ (TellsChange (delete c.args.kind Name c.args.name.now) c.args.entities.now) (λ s valid held.
    ap tells_change (sym (delete_planned c.args.kind c.args.name.now (record { entities = c.args.entities.now; rest = s }) c.in-Ok.number c.requires
    (number_from_found c.args.kind c.args.name.now c.args.entities.now c.in-Ok.number (sym c.in-Ok.is ∙ c.find.ensures.found))).reply))
