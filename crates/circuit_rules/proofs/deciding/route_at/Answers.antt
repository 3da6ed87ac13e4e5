use Rattle.ctrl_model.specs.Limits.{most_terminator_cost}
use Rattle.std.proofs.Common.{◌<◌, ◌≤◌, length, sym, ◌∙◌, ap, subst}
use Rattle.std.specs.List.{All}
use Rattle.route_choice.specs.declared.choosing.Entry.{Entry}
use Rattle.route_choice.specs.declared.choosing.Exit.{Exit}
use Rattle.circuit_rules.specs.Views.{network}
use Rattle.route_choice.specs.RouteChoices.{exits_at}
use Rattle.circuit_rules.proofs.SearchLaws.{still_search, within_at}
use Rattle.circuit_rules.proofs.deciding.route_at.Goals as goal

pub visit_exits-requires : goal.visit_exits-requires
visit_exits-requires c =
    let places = length c.args.view.now.routers.now in
    let found = c.as_slice-exits.ensures.value ∙ c.in_ok-some.ensures ∙ ap (exits_at c.args.place) c.as_slice.ensures.value in
    subst (λ n. All (λ (o : Exit). o.place < n) c.as_slice-exits.result.now) (sym c.requires.search.is_graph.places)
    (subst (All (λ (o : Exit). o.place < places)) (sym found) (within_at places c.args.place c.args.ends.now c.requires.ends).0)

pub route_over-requires : goal.route_over-requires
route_over-requires c =
    let places = length c.args.view.now.routers.now in
    let found = c.as_slice-exits.ensures.value ∙ c.in_ok-some.ensures ∙ ap (exits_at c.args.place) c.as_slice.ensures.value in
    let within = within_at places c.args.place c.args.ends.now c.requires.ends in
    record {
      routers = c.requires.routers;
      search = still_search (network c.args.view.now) c.args.search.now c.visit_exits.new.search c.visit_exits.ensures.graph c.requires.search;
      least = c.in_ok-visit_exits.ensures.costs;
      entries = subst (All (λ (x : Entry). x.place < places)) (sym c.as_slice-2.ensures.value) c.requires.ends.entries;
      exits = subst (All (λ (o : Exit). o.place < places)) (sym found) within.0;
      costs = subst (All (λ (o : Exit). o.cost ≤ most_terminator_cost)) (sym found) within.1;
    }
