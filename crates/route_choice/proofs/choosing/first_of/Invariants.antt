use Rattle.std.proofs.Common.{◌≡◌, drop}
use Rattle.route_choice.specs.RouteChoices.{first_of}
use Rattle.route_choice.proofs.choosing.first_of.Given as goal

-- the first of those so far and those that are left
abbrev pub invariant-entries : goal.invariant-entries
invariant-entries l = first_of l.costs l.exit l.best (drop l.entry-index l.entries) ≡ first_of l.costs l.exit l.fn.best l.entries
