use Rattle.std.proofs.Common.{◌∙◌, sym}
use Rattle.ctrl_model.specs.Networks.{network_of}
use Rattle.ctrl_model.specs.Numbered.{map_each}
use Rattle.ctrl_model.specs.Settling.{link_stays, terminator_stays, stays_in, rerouted, settle_links, settle_terminators}
use Rattle.ctrl_model.proofs.NumberedLaws.{at-filter-back, at-map_each, Between-map_each}
use Rattle.model_laws.proofs.state_laws.repairing_removes_and_reroutes.Goals as goal

pub returns-clause-link_stood : goal.returns-clause-link_stood
returns-clause-link_stood c s n l b e = (at-filter-back (link_stays s) s.links.next s.links.rows 1 n l b e).0

pub returns-clause-terminator_stood : goal.returns-clause-terminator_stood
returns-clause-terminator_stood c s n t b e = (at-filter-back (terminator_stays (settle_links s)) s.terminators.next s.terminators.rows 1 n t b e).0

pub returns-clause-circuit_stood : goal.returns-clause-circuit_stood
returns-clause-circuit_stood c s n t b e =
    sym (at-map_each (rerouted (network_of (settle_terminators (settle_links s)))) s.circuits.rows n)
    ∙ (at-filter-back (stays_in (settle_terminators (settle_links s))) s.circuits.next (map_each (rerouted (network_of (settle_terminators (settle_links s)))) s.circuits.rows) 1 n t
    (Between-map_each (rerouted (network_of (settle_terminators (settle_links s)))) s.circuits.next s.circuits.rows 1 b) e).0
