use Rattle.std.proofs.Common.{◌≡◌, ◌-◌}
use Rattle.row_codec.specs.FieldReading.{behind, front_each, front_name}
use Rattle.row_codec.proofs.lists.past_each_name.Given as goal

-- what follows those that are left is what follows all of them
abbrev pub invariant-names : goal.invariant-names
invariant-names l = behind (front_each front_name (l.count - l.counter) l.rest) ≡ behind (front_each front_name l.count l.bytes)
