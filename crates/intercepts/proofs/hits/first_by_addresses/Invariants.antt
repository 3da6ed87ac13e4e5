use Rattle.std.proofs.Common.{◌≡◌, drop}
use Rattle.std.specs.List.{flat_map}
use Rattle.ctrl_model.specs.Hits.{hits_at}
use Rattle.intercepts.specs.FirstHits.{first_with}
use Rattle.intercepts.proofs.hits.first_by_addresses.Given as goal

-- the first of those so far and those of the addresses that are left
abbrev pub invariant-addresses : goal.invariant-addresses
invariant-addresses l =
    first_with l.best (flat_map (hits_at l.service l.ranges l.to.port l.to.address.now) (drop l.address-index l.address-items))
    ≡ first_with l.fn.best (flat_map (hits_at l.service l.ranges l.to.port l.to.address.now) l.address-items)
