use Rattle.std.proofs.Common.{◌≡◌, ◌-◌}
use Rattle.row_codec.specs.FieldReading.{behind, front_each}
use Rattle.row_reading.specs.RowReading.{front_address}
use Rattle.row_reading.proofs.intercepts.past_each_spelling.Given as goal

-- what follows those that are left is what follows all of them
abbrev pub invariant-texts : goal.invariant-texts
invariant-texts l = behind (front_each front_address (l.count - l.counter) l.rest) ≡ behind (front_each front_address l.count l.bytes)
