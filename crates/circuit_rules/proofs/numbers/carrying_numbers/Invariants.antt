use Rattle.std.proofs.Common.{◌≡◌, ◌++◌, map, filter, drop}
use Rattle.ctrl_model.specs.declared.kinds.RouterSeen.{RouterSeen}
use Rattle.circuit_rules.specs.Offers.{is_carried}
use Rattle.circuit_rules.proofs.numbers.carrying_numbers.Given as goal

-- the numbers so far and those of the routers that are left are all
abbrev pub invariant-routers : goal.invariant-routers
invariant-routers l =
    l.carrying.items ++ filter (is_carried l.offers l.place) (map (λ (r : RouterSeen). r.no.0) (drop l.router-index l.routers))
    ≡ filter (is_carried l.offers l.place) (map (λ (r : RouterSeen). r.no.0) l.routers)
