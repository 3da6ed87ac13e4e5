use Rattle.std.proofs.Common.{◌≡◌, ◌-◌}
use Rattle.std.specs.List.{list_any}
use Rattle.ctrl_model.specs.InterceptForm.{same_ports}
use Rattle.row_reading.specs.RowReading.{front_port_range, things_in}
use Rattle.row_reading.proofs.intercepts.has_port_range.Given as goal

-- whether it is one of those that are left tells whether it is one of all
abbrev pub invariant-ports : goal.invariant-ports
invariant-ports l = list_any (same_ports l.range) (things_in front_port_range (l.count - l.counter) l.rest) ≡ list_any (same_ports l.range) (things_in front_port_range l.count l.bytes)
