use Rattle.std.proofs.Common.{length, ◌∙◌, ap}
use Rattle.std.proofs.lemmas.List.{length-map}
use Rattle.ctrl_model.specs.declared.kinds.RouterSeen.{RouterSeen}
use Rattle.circuit_rules.specs.Views.{network}
use Rattle.circuit_rules.proofs.SearchLaws.{search_of}
use Rattle.circuit_rules.proofs.deciding.found_between.Goals as goal

pub first_route-requires-clause-search : goal.first_route-requires-clause-search
first_route-requires-clause-search c =
    search_of (network c.args.view.now) c.in_ok-search.search c.in_ok-graph.graph c.in_ok-search.ensures.graph
    (record { places = ap length c.in_ok-graph.ensures.places ∙ length-map c.args.view.now.routers.now (λ (r : RouterSeen). r.through); mirrors = c.in_ok-graph.ensures.mirrors })
    c.in_ok-graph.ensures.costs
