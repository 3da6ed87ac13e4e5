use Rattle.std.proofs.Common.{◌≡◌, ◌++◌, map, filter, drop}
use Rattle.ctrl_model.specs.Claims.{router_numbers, reach_of}
use Rattle.circuit_rules.specs.Views.{network}
use Rattle.circuit_rules.specs.Offers.{is_carried}
use Rattle.circuit_rules.specs.Searched.{IsSearchOf}
use Rattle.circuit_rules.proofs.reaching.reaches.Given as goal

-- the entries so far and those for the routers that are left are all entries
abbrev pub invariant-places : goal.invariant-places
invariant-places l = record {
  search : IsSearchOf (network l.view) l.search;
  entries : l.reaches.items ++ map (reach_of (network l.view)) (filter (is_carried l.offers l.most) (drop l.place (router_numbers (network l.view))))
      ≡ map (reach_of (network l.view)) (filter (is_carried l.offers l.most) (router_numbers (network l.view)));
}
