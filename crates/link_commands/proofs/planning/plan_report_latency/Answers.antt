use Rattle.std.proofs.Common.{subst, sym}
use Rattle.ctrl_model.specs.State.{Link}
use Rattle.link_commands.specs.PlannedLinks.{Reports}
use Rattle.link_commands.proofs.PlanLaws.{latency_planned}
use Rattle.link_commands.proofs.planning.plan_report_latency.Goals as goal

pub returns-in-Ok : goal.returns-in-Ok
returns-in-Ok c =
    let i = c.row.inside in
    let seen : Link = record { name = i.name; a = i.a.0; b = i.b.0; cost = i.cost; latency_a = i.latency_a; latency_b = i.latency_b; up = i.up } in
    latency_planned c.args.link.now c.args.router.now c.args.latency c.args.entities.now c.args.fabric.now c.in-Ok.no seen c.in-Ok.reporter
    c.latency_at-latency_a.result c.latency_at-latency_b.result c.changed.result c.requires
    (subst (λ l. Reports c.args.link.now c.args.router.now c.args.entities.now c.args.fabric.now c.in-Ok.no.0 l c.in-Ok.reporter) (sym c.row.view_is) c.in-Ok.ensures.reports)
    c.latency_at-latency_a.ensures c.latency_at-latency_b.ensures c.changed.ensures
