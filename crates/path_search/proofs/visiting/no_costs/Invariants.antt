use Rattle.std.proofs.Common.{◌≡◌, [], replicate}
use Rattle.path_search.proofs.visiting.no_costs.Given as goal

abbrev pub invariant-places : goal.invariant-places
invariant-places l = l.costs.items ≡ replicate l.counter []
