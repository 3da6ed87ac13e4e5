use Rattle.std.proofs.Common.{◌≡◌, ◌<◌, [], length, false, sym, ◌∙◌, ap, subst}
use Rattle.std.proofs.lemmas.List.{get_or_default}
use Rattle.path_search.specs.Searches.{IsLeast}
use Rattle.circuit_rules.specs.Views.{network}
use Rattle.path_search.specs.Visits.{costs_to}
use Rattle.fabric_graph.specs.Routers.{number_at}
use Rattle.circuit_rules.proofs.ReachLaws.{values-reach, number_there, reach_from}
use Rattle.circuit_rules.proofs.SearchLaws.{still_search}
use Rattle.circuit_rules.proofs.reaching.reach_to.Goals as goal

pub returns-clause-reach : goal.returns-clause-reach
returns-clause-reach c =
    let w = network c.args.view.now in
    let routers = c.args.view.now.routers.now in
    let s = c.visit.new.self in
    let k = still_search w c.args.search.now s c.visit.ensures.graph c.requires.search in
    let listed : length c.costs.result.now ≡ length routers = ap length c.costs.ensures.costs ∙ c.costs.ensures.places ∙ k.is_graph.places in
    let read : c.in_ok-values.values ≡ costs_to s.costs c.args.place
    = c.in_ok-values.ensures ∙ c.index-costs-place.is
    ∙ get_or_default c.costs.result.now c.args.place c.index-costs-place.result [] (subst (λ n. c.args.place < n) (sym listed) c.requires.place)
    ∙ ap (λ costs. costs_to costs c.args.place) c.costs.ensures.costs in
    reach_from w (number_at routers c.args.place) _ c.in_ok-values.values
    (number_there routers c.args.place (record { no = record { 0 = 0 }; cost = 0; through = false; connected = false }) c.requires.place)
    (values-reach w s.graph c.args.place c.in_ok-values.values k.is_graph c.requires.place c.requires.on
    (subst (IsLeast s.graph c.args.place) (sym read) c.in_ok-visit.ensures.known.0))
