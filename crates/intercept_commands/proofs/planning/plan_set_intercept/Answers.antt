use Rattle.std.proofs.Common.{sym, ◌∙◌}
use Rattle.entity_store.proofs.KeptLaws.{on_err}
use Rattle.intercept_commands.proofs.PlanLaws.{set_unknown, set_planned, set_known}
use Rattle.intercept_commands.proofs.planning.plan_set_intercept.Goals as goal

pub returns-in_default-clause-plan : goal.returns-in_default-clause-plan
returns-in_default-clause-plan c =
    set_unknown c.args.service.now c.args.intercept.now c.args.stores.now c.unknown.result (sym c.service_named.ensures ∙ c.in_default.is) c.unknown.ensures

pub returns-in_err-intercept-clause-memory : goal.returns-in_err-intercept-clause-memory
returns-in_err-intercept-clause-memory c =
    on_err _ _ (set_known c.args.service.now c.args.intercept.now c.args.stores.now c.in-Some.number (sym c.in-Some.ensures))

pub returns-clause-plan : goal.returns-clause-plan
returns-clause-plan c =
    set_planned c.args.service.now c.args.intercept.now c.in_ok-intercept.intercept c.args.stores.now c.in-Some.number c.changed.result (sym c.in-Some.ensures) c.requires
    c.in_ok-intercept.ensures c.changed.ensures
