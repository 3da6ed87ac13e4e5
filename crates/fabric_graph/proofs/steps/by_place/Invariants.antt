use Rattle.std.proofs.Common.{◌≡◌}
use Rattle.fabric_graph.specs.Steps.{by_place}
use Rattle.fabric_graph.proofs.steps.by_place.Given as goal

abbrev pub invariant-places : goal.invariant-places
invariant-places l = l.steps.items ≡ by_place l.all l.place
