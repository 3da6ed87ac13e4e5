use Rattle.std.proofs.Common.{◌≡◌, ◌-◌, ◌++◌}
use Rattle.row_codec.specs.FieldReading.{front_name}
use Rattle.row_reading.specs.RowReading.{things_in}
use Rattle.row_reading.proofs.lists.each_name.Given as goal

-- those read so far, and those that are left, are all of them
abbrev pub invariant-names : goal.invariant-names
invariant-names l = l.names.items ++ things_in front_name (l.count - l.counter) l.rest ≡ things_in front_name l.count l.bytes
