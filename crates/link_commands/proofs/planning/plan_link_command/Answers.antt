use Rattle.std.proofs.Common.{sym, ◌∙◌, ap}
use Rattle.ctrl_model.specs.SpelledCommands.{is_spelled}
use Rattle.link_commands.proofs.SpelledLinks.{made_costs, set_cost, reported_latency}
use Rattle.link_commands.proofs.planning.plan_link_command.Goals as goal

pub plan_create_link-requires-clause-cost : goal.plan_create_link-requires-clause-cost
plan_create_link-requires-clause-cost c =
    let made = c.in-CreateLink in
    (made_costs made.name made.a made.b made.cost made.latency_a made.latency_b (ap is_spelled (sym made.is) ∙ c.requires)).0

pub plan_create_link-requires-clause-latency_a : goal.plan_create_link-requires-clause-latency_a
plan_create_link-requires-clause-latency_a c =
    let made = c.in-CreateLink in
    (made_costs made.name made.a made.b made.cost made.latency_a made.latency_b (ap is_spelled (sym made.is) ∙ c.requires)).1.0

pub plan_create_link-requires-clause-latency_b : goal.plan_create_link-requires-clause-latency_b
plan_create_link-requires-clause-latency_b c =
    let made = c.in-CreateLink in
    (made_costs made.name made.a made.b made.cost made.latency_a made.latency_b (ap is_spelled (sym made.is) ∙ c.requires)).1.1

pub plan_set_link_cost-requires : goal.plan_set_link_cost-requires
plan_set_link_cost-requires c = set_cost c.in-SetLinkCost.link c.in-SetLinkCost.cost (ap is_spelled (sym c.in-SetLinkCost.is) ∙ c.requires)

pub plan_report_latency-requires : goal.plan_report_latency-requires
plan_report_latency-requires c =
    let report = c.in-ReportLatency in
    reported_latency report.link report.router report.latency (ap is_spelled (sym report.is) ∙ c.requires)

pub plan_set_least_router_cost-requires : goal.plan_set_least_router_cost-requires
plan_set_least_router_cost-requires c = ap is_spelled (sym c.in-SetLeastRouterCost.is) ∙ c.requires
