use Rattle.std.proofs.Common.{◌∙◌, ap}
use Rattle.std.proofs.lemmas.Result.{IfOk-weaker}
use Rattle.ctrl_model.proofs.Tests.{in_bounds}
use Rattle.fabric_graph.proofs.GraphLaws.{graph_by, is_graph, few_costs, mirrors}
use Rattle.fabric_graph.proofs.fabric.Fabric.graph_of.Goals as goal

pub graph_over-requires-clause-graph : goal.graph_over-requires-clause-graph
graph_over-requires-clause-graph c =
    rw (c.as_slice.ensures.value, c.in_ok-all.ensures.steps)
    (is_graph c.self.inside.links c.self.inside.least c.args.routers.now c.in_ok-all.ensures.order.ordered c.self.invariant.each
    (in_bounds 1 65535 c.self.inside.least c.self.invariant.setting).1 c.requires)

pub returns-clause-mirrors : goal.returns-clause-mirrors
returns-clause-mirrors c =
    rw (← c.self.view_is) (IfOk-weaker c.graph_over.result _ _
    (λ g is. mirrors c.self.inside.links c.self.inside.least c.args.routers.now c.in_ok-all.ensures.order.ordered c.self.invariant.each
    (in_bounds 1 65535 c.self.inside.least c.self.invariant.setting).1 c.requires
    g (is ∙ ap (graph_by c.args.routers.now) (c.as_slice.ensures.value ∙ c.in_ok-all.ensures.steps))) c.graph_over.ensures)

pub returns-clause-costs : goal.returns-clause-costs
returns-clause-costs c =
    IfOk-weaker c.graph_over.result _ _
    (λ g is. few_costs c.self.inside.links c.self.inside.least c.args.routers.now c.in_ok-all.ensures.order.ordered c.self.invariant.each
    (in_bounds 1 65535 c.self.inside.least c.self.invariant.setting).1 c.requires
    g (is ∙ ap (graph_by c.args.routers.now) (c.as_slice.ensures.value ∙ c.in_ok-all.ensures.steps))) c.graph_over.ensures
