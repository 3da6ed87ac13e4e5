use Rattle.std.proofs.Common.{◌≡◌, drop}
use Rattle.ctrl_model.specs.Networks.{hops}
use Rattle.ctrl_model.specs.Claims.{is_tight, claimed}
use Rattle.circuit_rules.specs.Views.{network}
use Rattle.circuit_rules.proofs.tight.is_tight.Given as goal

-- the links that are left are a chain from the router that was reached exactly if all are one from the start
abbrev pub invariant-links : goal.invariant-links
invariant-links l =
    is_tight (hops (network l.view) l.target.0) (claimed (network l.view) l.entries l.target.0) l.target.0 l.at.0 (drop l.link-index l.links)
    ≡ is_tight (hops (network l.view) l.target.0) (claimed (network l.view) l.entries l.target.0) l.target.0 l.fn.from.0 l.links
