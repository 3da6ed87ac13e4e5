use Rattle.std.proofs.Common.{◌≡◌, ◌-◌, ◌++◌}
use Rattle.row_reading.specs.RowReading.{front_port_range, things_in}
use Rattle.row_reading.proofs.intercepts.each_port_range.Given as goal

-- those read so far, and those that are left, are all of them
abbrev pub invariant-ports : goal.invariant-ports
invariant-ports l = l.ranges.items ++ things_in front_port_range (l.count - l.counter) l.rest ≡ things_in front_port_range l.count l.bytes
