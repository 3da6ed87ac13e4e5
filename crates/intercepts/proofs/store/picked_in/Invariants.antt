use Rattle.std.proofs.Common.{◌≡◌, drop}
use Rattle.ctrl_model.specs.Hits.{hits, picked}
use Rattle.intercepts.specs.FirstHits.{first_with}
use Rattle.intercepts.proofs.store.picked_in.Given as goal

-- the first of those so far and those of the services that are left
abbrev pub invariant-services : goal.invariant-services
invariant-services l =
    first_with l.best (hits l.claims.entries (drop l.service-index l.dialled) l.to.udp l.to.address.now l.to.port)
    ≡ picked l.claims.entries l.dialled l.to.udp l.to.address.now l.to.port
