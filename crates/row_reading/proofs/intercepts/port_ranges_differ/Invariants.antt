use Rattle.std.proofs.Common.{◌≡◌, ◌-◌}
use Rattle.ctrl_model.specs.InterceptForm.{is_without_repeats, same_ports}
use Rattle.row_reading.specs.RowReading.{front_port_range, things_in}
use Rattle.row_reading.proofs.intercepts.port_ranges_differ.Given as goal

-- those that are left have no repeats exactly where all have none
abbrev pub invariant-ports : goal.invariant-ports
invariant-ports l = is_without_repeats same_ports (things_in front_port_range (l.count - l.done) l.rest) ≡ is_without_repeats same_ports (things_in front_port_range l.count l.bytes)
