use Rattle.circuit_rules.specs.Views.{network}
use Rattle.circuit_rules.specs.Searched.{IsSearchOf}
use Rattle.circuit_rules.specs.FoundRoutes.{NoneBefore}
use Rattle.circuit_rules.proofs.deciding.first_route.Given as goal

-- of the precedences before the place none has a route
abbrev pub invariant-places : goal.invariant-places
invariant-places l = record {
  search : IsSearchOf (network l.view) l.search;
  none : NoneBefore (network l.view) l.ends.entries.items l.ends.exits.items l.place;
}
