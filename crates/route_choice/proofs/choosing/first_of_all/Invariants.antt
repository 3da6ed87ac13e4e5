use Rattle.std.proofs.Common.{◌≡◌, drop, None}
use Rattle.route_choice.specs.RouteChoices.{first_of_all}
use Rattle.route_choice.proofs.choosing.first_of_all.Given as goal

-- the first of those so far and those that are left
abbrev pub invariant-exits : goal.invariant-exits
invariant-exits l = first_of_all l.costs l.entries l.best (drop l.exit-index l.exits) ≡ first_of_all l.costs l.entries None l.exits
