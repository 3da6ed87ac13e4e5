use Rattle.std.proofs.Common.{◌≡◌, drop, map, filter}
use Rattle.ctrl_model.specs.Hits.{has_port}
use Rattle.intercepts.specs.FirstHits.{first_with}
use Rattle.intercepts.proofs.hits.first_by_ranges.Given as goal

-- the first of those so far and those of the ranges that are left
abbrev pub invariant-held : goal.invariant-held
invariant-held l =
    first_with l.best (map (λ r. record { service = l.service; near = l.near; address = l.address; ports = r }) (filter (has_port l.port) (drop l.range-index l.ranges)))
    ≡ first_with l.fn.best (map (λ r. record { service = l.service; near = l.near; address = l.address; ports = r }) (filter (has_port l.port) l.ranges))
