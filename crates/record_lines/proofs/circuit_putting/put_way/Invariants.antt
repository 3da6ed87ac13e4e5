use Rattle.std.proofs.Common.{◌≡◌, ◌++◌, drop}
use Rattle.state_building.specs.BuiltStates.{state_in}
use Rattle.record_lines.specs.RecordLines.{way_on}
use Rattle.record_lines.proofs.circuit_putting.put_way.Given as goal

-- what was put down and the way over the links that are left are the whole way
abbrev pub invariant-links : goal.invariant-links
invariant-links l =
    l.text.items ++ way_on (state_in l.rows) l.router (drop l.link-index l.links) ≡ l.fn.text.items ++ way_on (state_in l.rows) l.from l.links
