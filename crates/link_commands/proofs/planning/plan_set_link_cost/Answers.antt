use Rattle.std.proofs.Common.{subst, sym}
use Rattle.ctrl_model.specs.State.{Link}
use Rattle.link_commands.specs.PlannedLinks.{IsLink}
use Rattle.link_commands.proofs.PlanLaws.{cost_planned}
use Rattle.link_commands.proofs.planning.plan_set_link_cost.Goals as goal

pub returns : goal.returns
returns c =
    let i = c.row.inside in
    let seen : Link = record { name = i.name; a = i.a.0; b = i.b.0; cost = i.cost; latency_a = i.latency_a; latency_b = i.latency_b; up = i.up } in
    cost_planned c.args.link.now c.args.cost c.args.fabric.now c.in-Some.no seen c.changed.result c.requires
    (subst (IsLink c.args.link.now c.args.fabric.now c.in-Some.no.0) (sym c.row.view_is) c.in-Some.ensures) c.changed.ensures
