use Rattle.std.proofs.Common.{◌≡◌, ◌++◌, drop}
use Rattle.circuits.specs.MovedCircuits.{moves_by, ended_by}
use Rattle.circuit_settling.specs.OtherLinks.{way_at}
use Rattle.circuit_settling.proofs.judging.judge.Given as goal

-- those so far and those among the numbers that are left are all, and the search is one of the same graph
abbrev pub invariant-lost : goal.invariant-lost
invariant-lost l =
    (l.search.graph ≡ l.fn.search.graph)
    × (l.ended.items ++ ended_by (way_at l.present l.grants l.circuits.circuits.rows) (drop l.number-index l.lost) ≡ ended_by (way_at l.present l.grants l.circuits.circuits.rows) l.lost)
    × (l.moves.items ++ moves_by (way_at l.present l.grants l.circuits.circuits.rows) (drop l.number-index l.lost) ≡ moves_by (way_at l.present l.grants l.circuits.circuits.rows) l.lost)
