use Rattle.std.proofs.Common.{refl}
use Rattle.policy_commands.proofs.SpelledPolicies.{short_sides, spelled_either, delete_either}
use Rattle.policy_commands.proofs.planning.plan_router_policy.Goals as goal

pub plan_create-requires-clause-short : goal.plan_create-requires-clause-short
plan_create-requires-clause-short c =
    let said = c.in-CreateEdgeRouterPolicy in
    short_sides c.of-policy-in-CreateEdgeRouterPolicy.result said.name c.router_kind-kind.result.1 said.semantic said.left said.right
    (spelled_either c.args.command.now _ _ said.is refl c.requires.spelled) c.of-policy-in-CreateEdgeRouterPolicy.ensures

pub plan_replace-requires-clause-short : goal.plan_replace-requires-clause-short
plan_replace-requires-clause-short c =
    let said = c.in-UpdateEdgeRouterPolicy in
    short_sides c.of-policy.result said.name c.router_kind-kind.result.1 said.semantic said.left said.right
    (spelled_either c.args.command.now _ _ said.is refl c.requires.spelled) c.of-policy.ensures

pub returns-in-DeleteEdgeRouterPolicy-clause-plan : goal.returns-in-DeleteEdgeRouterPolicy-clause-plan
returns-in-DeleteEdgeRouterPolicy-clause-plan c =
    delete_either c.args.command.now c.in-DeleteEdgeRouterPolicy.name c.router_kind-kind.result c.args.known.now.entities.now c.args.known.now.policies.now
    c.plan_delete.result c.in-DeleteEdgeRouterPolicy.is c.router_kind-kind.ensures (c.plan_delete.ensures c.args.known.now.entities.now)
