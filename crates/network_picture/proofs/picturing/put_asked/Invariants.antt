use Rattle.std.proofs.Common.{◌≡◌, ◌++◌, take}
use Rattle.std.specs.List.{flat_map}
use Rattle.state_building.specs.BuiltStates.{state_in}
use Rattle.network_picture.specs.RowPictures.{row_asked}
use Rattle.network_picture.proofs.picturing.put_asked.Given as goal

-- what the rows so far ask for
abbrev pub invariant-rows : goal.invariant-rows
invariant-rows l = l.text.items ≡ l.fn.text.items ++ flat_map (row_asked l.word (state_in l.rows)) (take l.row-index l.rows)
