use Rattle.std.proofs.Common.{◌≡◌, [], ◌∷◌, drop}
use Rattle.ctrl_model.specs.Networks.{hops}
use Rattle.ctrl_model.specs.Walks.{goes}
use Rattle.circuit_settling.specs.PresentRecords.{network_in}
use Rattle.circuit_settling.proofs.paths.goes.Given as goal

abbrev pub invariant-links : goal.invariant-links
invariant-links l =
    goes (hops (network_in l.present) l.target.0) l.target.0 l.visited.items l.at.0 (drop l.link-index l.links)
    ≡ goes (hops (network_in l.present) l.target.0) l.target.0 (l.fn.from.0 ∷ []) l.fn.from.0 l.links
