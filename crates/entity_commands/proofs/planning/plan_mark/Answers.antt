use Rattle.std.proofs.Common.{Some, ap, sym, ◌∙◌}
use Rattle.ctrl_model.specs.declared.kinds.Kind.TheVariants as kind
use Rattle.entity_commands.proofs.EntityPlans.{number_from_found, absent_from_found, found_seen, mark_unknown, mark_planned}
use Rattle.entity_commands.proofs.planning.plan_mark.Goals as goal

pub returns-in_default : goal.returns-in_default
returns-in_default c = λ s valid held.
    rw (c.unknown_name.ensures)
    (mark_unknown c.args.name.now c.args.connected (record { entities = c.args.entities.now; rest = s })
    (absent_from_found kind.Router c.args.name.now c.args.entities.now c.in_default.field-0 (sym c.in_default.is ∙ c.find.ensures.found)))

pub unreachable-requires : goal.unreachable-requires
unreachable-requires c =
    found_seen c.args.name.now c.args.entities.now c.in-Ok.number
    (number_from_found kind.Router c.args.name.now c.args.entities.now c.in-Ok.number (sym c.in-Ok.is ∙ c.find.ensures.found)) (sym c.in_default-router.is ∙ c.router.ensures)

pub returns : goal.returns
returns c = λ s valid held.
    rw (c.changed.ensures)
    (mark_planned c.args.name.now c.args.connected (record { entities = c.args.entities.now; rest = s }) c.in-Ok.number _ (record { valid = valid; held = held })
    (number_from_found kind.Router c.args.name.now c.args.entities.now c.in-Ok.number (sym c.in-Ok.is ∙ c.find.ensures.found)) (ap Some c.router-2.view_is ∙ sym c.in-Some.is ∙ c.router.ensures))
