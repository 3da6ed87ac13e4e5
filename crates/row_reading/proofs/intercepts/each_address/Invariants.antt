use Rattle.std.proofs.Common.{◌≡◌, ◌-◌, ◌++◌}
use Rattle.row_reading.specs.RowReading.{front_address, things_in}
use Rattle.row_reading.proofs.intercepts.each_address.Given as goal

-- those read so far, and those that are left, are all of them
abbrev pub invariant-texts : goal.invariant-texts
invariant-texts l = l.addresses.items ++ things_in front_address (l.count - l.counter) l.rest ≡ things_in front_address l.count l.bytes
