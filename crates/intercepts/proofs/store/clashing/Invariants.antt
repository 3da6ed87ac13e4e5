use Rattle.std.proofs.Common.{◌≡◌, ◌++◌, drop, filter}
use Rattle.ctrl_model.specs.Hits.{clashes_with}
use Rattle.intercepts.proofs.store.clashing.Given as goal

-- the services so far and those that clash among the ones that are left
abbrev pub invariant-services : goal.invariant-services
invariant-services l =
    l.found.items ++ filter (clashes_with l.claims.entries l.service l.intercept) (drop l.other-index l.dialled)
    ≡ filter (clashes_with l.claims.entries l.service l.intercept) l.dialled
