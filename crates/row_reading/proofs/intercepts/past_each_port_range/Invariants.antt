use Rattle.std.proofs.Common.{◌≡◌, ◌-◌}
use Rattle.row_codec.specs.FieldReading.{behind, front_each}
use Rattle.row_reading.specs.RowReading.{front_port_range}
use Rattle.row_reading.proofs.intercepts.past_each_port_range.Given as goal

-- what follows those that are left is what follows all of them
abbrev pub invariant-ports : goal.invariant-ports
invariant-ports l = behind (front_each front_port_range (l.count - l.counter) l.rest) ≡ behind (front_each front_port_range l.count l.bytes)
