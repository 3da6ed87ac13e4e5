use Rattle.std.proofs.Common.{◌≡◌, ◌-◌, ◌++◌}
use Rattle.row_codec.specs.FieldReading.{front_long}
use Rattle.row_reading.specs.RowReading.{things_in}
use Rattle.row_reading.proofs.lists.each_long.Given as goal

-- those read so far, and those that are left, are all of them
abbrev pub invariant-numbers : goal.invariant-numbers
invariant-numbers l = l.numbers.items ++ things_in front_long (l.count - l.counter) l.rest ≡ things_in front_long l.count l.bytes
