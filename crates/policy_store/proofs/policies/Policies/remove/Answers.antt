use Rattle.std.proofs.Common.{◌≤◌, length, arith}
use Rattle.ctrl_model.specs.Numbered.{without}
use Rattle.ctrl_model.proofs.NumberedLaws.{length-filter-le}
use Rattle.policy_store.proofs.policies.Policies.remove.Goals as goal

pub invariant_of-self : goal.invariant_of-self
invariant_of-self c =
    rw c.remove.ensures (let fewer : length (without c.self.inside.service_policies.rows c.args.no.0) ≤ length c.self.inside.service_policies.rows = length-filter-le _ _ in (omega arith, c.self.invariant.1, c.self.invariant.2))

pub invariant_of-self-in-EdgeRouterPolicy : goal.invariant_of-self-in-EdgeRouterPolicy
invariant_of-self-in-EdgeRouterPolicy c =
    rw c.remove-in-EdgeRouterPolicy.ensures (let fewer : length (without c.self.inside.edge_router_policies.rows c.args.no.0) ≤ length c.self.inside.edge_router_policies.rows = length-filter-le _ _ in (c.self.invariant.0, omega arith, c.self.invariant.2))

pub invariant_of-self-in-ServiceEdgeRouterPolicy : goal.invariant_of-self-in-ServiceEdgeRouterPolicy
invariant_of-self-in-ServiceEdgeRouterPolicy c =
    rw c.remove-in-ServiceEdgeRouterPolicy.ensures (let fewer : length (without c.self.inside.service_edge_router_policies.rows c.args.no.0) ≤ length c.self.inside.service_edge_router_policies.rows = length-filter-le _ _ in (c.self.invariant.0, c.self.invariant.1, omega arith))
