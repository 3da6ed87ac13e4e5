use Rattle.std.proofs.Common.{◌≡◌, ◌++◌, take}
use Rattle.std.specs.List.{flat_map}
use Rattle.row_codec.specs.RowValues.{long}
use Rattle.row_writing.proofs.writing.push_longs.Given as goal

-- the numbers before the index are written
abbrev pub invariant-numbers : goal.invariant-numbers
invariant-numbers l = l.out.items ≡ l.fn.out.items ++ flat_map long (take l.number-index l.numbers)
