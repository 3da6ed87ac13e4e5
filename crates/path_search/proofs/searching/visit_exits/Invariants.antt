use Rattle.std.proofs.Common.{◌≡◌, take}
use Rattle.ctrl_model.specs.Membership.{Among}
use Rattle.path_search.specs.Visits.{costs_to, IsKnown}
use Rattle.route_choice.specs.declared.choosing.Exit.{Exit}
use Rattle.path_search.proofs.searching.visit_exits.Given as goal

-- the least costs to the places of the exits before the index are there
abbrev pub invariant-exits : goal.invariant-exits
invariant-exits l = record {
  graph : l.search.graph ≡ l.fn.search.graph;
  each : (o : Exit) → Among o (take l.exit-index l.exits) → IsKnown l.search.graph o.place (costs_to l.search.costs o.place);
}
