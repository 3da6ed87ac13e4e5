use Rattle.std.proofs.Common.{◌∙◌, ap}
use Rattle.std.proofs.lemmas.Result.{IfOk-weaker}
use Rattle.fabric_graph.proofs.GraphLaws.{graph_by, is_graph, few_costs, mirrors}
use Rattle.fabric_graph.proofs.after.FabricAfter.graph_of.Goals as goal

pub graph_over-requires-clause-graph : goal.graph_over-requires-clause-graph
graph_over-requires-clause-graph c =
    rw (c.as_slice.ensures.value, c.in_ok-all.ensures.steps)
    (is_graph c.args.self.now.links c.args.self.now.least c.args.routers.now c.in_ok-all.ensures.ordered c.requires.fit c.requires.least c.requires.routers)

pub returns-clause-mirrors : goal.returns-clause-mirrors
returns-clause-mirrors c =
    IfOk-weaker c.graph_over.result _ _
    (λ g is. mirrors c.args.self.now.links c.args.self.now.least c.args.routers.now c.in_ok-all.ensures.ordered c.requires.fit c.requires.least c.requires.routers
    g (is ∙ ap (graph_by c.args.routers.now) (c.as_slice.ensures.value ∙ c.in_ok-all.ensures.steps))) c.graph_over.ensures

pub returns-clause-costs : goal.returns-clause-costs
returns-clause-costs c =
    IfOk-weaker c.graph_over.result _ _
    (λ g is. few_costs c.args.self.now.links c.args.self.now.least c.args.routers.now c.in_ok-all.ensures.ordered c.requires.fit c.requires.least c.requires.routers
    g (is ∙ ap (graph_by c.args.routers.now) (c.as_slice.ensures.value ∙ c.in_ok-all.ensures.steps))) c.graph_over.ensures
