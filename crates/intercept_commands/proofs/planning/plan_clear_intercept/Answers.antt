use Rattle.std.proofs.Common.{sym, ◌∙◌}
use Rattle.intercept_commands.proofs.PlanLaws.{clear_unknown, clear_planned}
use Rattle.intercept_commands.proofs.planning.plan_clear_intercept.Goals as goal

pub returns-in_default : goal.returns-in_default
returns-in_default c = clear_unknown c.args.service.now c.args.stores.now c.unknown.result (sym c.service_named.ensures ∙ c.in_default.is) c.unknown.ensures

pub returns : goal.returns
returns c = clear_planned c.args.service.now c.args.stores.now c.in-Some.number c.changed.result (sym c.in-Some.ensures) c.changed.ensures
