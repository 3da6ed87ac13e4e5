use Rattle.std.proofs.Common.{subst, sym}
use Rattle.ctrl_model.specs.State.{Link}
use Rattle.link_commands.specs.PlannedLinks.{Reports}
use Rattle.link_commands.proofs.PlanLaws.{state_planned}
use Rattle.link_commands.proofs.planning.plan_report_state.Goals as goal

pub returns-in-Ok : goal.returns-in-Ok
returns-in-Ok c =
    let i = c.row.inside in
    let seen : Link = record { name = i.name; a = i.a.0; b = i.b.0; cost = i.cost; latency_a = i.latency_a; latency_b = i.latency_b; up = i.up } in
    state_planned c.args.link.now c.args.router.now c.args.up c.args.entities.now c.args.fabric.now c.in-Ok.no seen c.in-Ok._reporter c.changed.result
    (subst (λ l. Reports c.args.link.now c.args.router.now c.args.entities.now c.args.fabric.now c.in-Ok.no.0 l c.in-Ok._reporter) (sym c.row.view_is) c.in-Ok.ensures.reports)
    c.changed.ensures
