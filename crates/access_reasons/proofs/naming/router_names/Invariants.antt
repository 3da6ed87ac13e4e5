use Rattle.std.proofs.Common.{◌≡◌, ◌++◌, drop}
use Rattle.access_reasons.specs.Reasons.{names_of}
use Rattle.access_reasons.proofs.naming.router_names.Given as goal

-- the names so far and those of the routers that are left are all
abbrev pub invariant-numbers : goal.invariant-numbers
invariant-numbers l = l.names.items ++ names_of l.entities.routers.rows (drop l.number-index l.numbers) ≡ names_of l.entities.routers.rows l.numbers
