use Rattle.std.proofs.Common.{◌≡◌, ◌++◌, take}
use Rattle.std.specs.List.{flat_map}
use Rattle.row_codec.specs.RowValues.{text}
use Rattle.row_writing.proofs.writing.push_each.Given as goal

-- the names before the index are written
abbrev pub invariant-names : goal.invariant-names
invariant-names l = l.out.items ≡ l.fn.out.items ++ flat_map text (take l.name-index l.names)
