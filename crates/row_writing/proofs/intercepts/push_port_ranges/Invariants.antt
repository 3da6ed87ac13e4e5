use Rattle.std.proofs.Common.{◌≡◌, ◌++◌, take}
use Rattle.std.specs.List.{flat_map}
use Rattle.row_codec.specs.RowValues.{port_range_value}
use Rattle.row_writing.proofs.intercepts.push_port_ranges.Given as goal

-- the ranges before the index are written
abbrev pub invariant-ports : goal.invariant-ports
invariant-ports l = l.out.items ≡ l.fn.out.items ++ flat_map port_range_value (take l.range-index l.ranges)
