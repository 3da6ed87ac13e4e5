use Rattle.std.proofs.Common.{◌≡◌, ◌-◌}
use Rattle.row_codec.specs.FieldReading.{behind, front_each, front_long}
use Rattle.row_codec.proofs.lists.past_each_long.Given as goal

-- what follows those that are left is what follows all of them
abbrev pub invariant-numbers : goal.invariant-numbers
invariant-numbers l = behind (front_each front_long (l.count - l.counter) l.rest) ≡ behind (front_each front_long l.count l.bytes)
