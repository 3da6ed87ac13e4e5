use Rattle.std.proofs.Common.{◌≡◌, ◌+◌, drop}
use Rattle.circuit_rules.specs.Searched.{place_in}
use Rattle.circuit_rules.proofs.places.place_in.Given as goal

abbrev pub invariant-routers : goal.invariant-routers
invariant-routers l = (l.place ≡ l.other-index) × (l.place + place_in (drop l.other-index l.routers) l.router.0 ≡ place_in l.routers l.router.0)
