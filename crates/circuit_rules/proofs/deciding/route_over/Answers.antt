use Rattle.std.proofs.Common.{◌<◌, length, None, Some, sym, ◌∙◌, subst}
use Rattle.std.specs.List.{All}
use Rattle.route_choice.specs.declared.choosing.Exit.{Exit}
use Rattle.circuit_rules.specs.Views.{network}
use Rattle.circuit_rules.specs.Searched.{GoesFirst, IsFound}
use Rattle.circuit_rules.proofs.SearchLaws.{IsWalkable, ready, searched, small_costs, walkable}
use Rattle.circuit_rules.proofs.deciding.route_over.Goals as goal

pub first_of_all-requires : goal.first_of_all-requires
first_of_all-requires c =
    let q = c.requires in
    let costs = c.costs-costs.result.now in
    let r = ready (network c.args.view.now) c.args.search.now costs c.args.entries.now c.args.exits.now q.search c.costs-costs.ensures.costs c.costs-costs.ensures.places q.least q.entries q.exits in
    record {
      places = q.entries;
      exits = subst (λ n. All (λ (o : Exit). o.place < n) c.args.exits.now) (sym r.listed) q.exits;
      small = small_costs c.args.search.now.graph c.args.exits.now costs (length c.args.view.now.routers.now) q.routers.few r.places_are q.search.most r.least q.exits;
      costs = q.costs;
    }

pub route_of-requires : goal.route_of-requires
route_of-requires c =
    let q = c.requires in
    let g = c.args.search.now.graph in
    let costs = c.costs-costs.result.now in
    let r = ready (network c.args.view.now) c.args.search.now costs c.args.entries.now c.args.exits.now q.search c.costs-costs.ensures.costs c.costs-costs.ensures.places q.least q.entries q.exits in
    let h = subst (λ g. IsWalkable g costs c.in-Some.choice) (sym c.graph.ensures)
    (walkable (length c.args.view.now.routers.now) g costs c.args.entries.now c.args.exits.now c.in-Some.choice r (sym c.first_of_all.ensures ∙ c.in-Some.is)) in
    record { to = h.to; from = h.from; listed = h.listed; least = h.least; there = h.there }

pub returns-in_default : goal.returns-in_default
returns-in_default c =
    let costs = c.costs-costs.result.now in
    searched (network c.args.view.now) c.args.search.now costs c.args.entries.now c.args.exits.now None c.requires.search c.costs-costs.ensures.costs c.requires.least
    (subst (λ o. IsFound c.args.search.now.graph costs o None) (sym c.in_default.is ∙ c.first_of_all.ensures) tt)

pub returns : goal.returns
returns c =
    let costs = c.costs-costs.result.now in
    searched (network c.args.view.now) c.args.search.now costs c.args.entries.now c.args.exits.now (Some c.in_ok-route.route) c.requires.search c.costs-costs.ensures.costs c.requires.least
    (subst (λ o. IsFound c.args.search.now.graph costs o (Some c.in_ok-route.route)) (sym c.in-Some.is ∙ c.first_of_all.ensures)
    (subst (λ g. GoesFirst g costs c.in-Some.choice c.in_ok-route.route) c.graph.ensures c.in_ok-route.ensures))
