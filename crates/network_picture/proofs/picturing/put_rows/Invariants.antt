use Rattle.std.proofs.Common.{◌≡◌, ◌++◌, take}
use Rattle.std.specs.List.{flat_map}
use Rattle.network_picture.specs.RowPictures.{drawn_where}
use Rattle.network_picture.proofs.picturing.put_rows.Given as goal

-- the lines of the rows so far
abbrev pub invariant-rows : goal.invariant-rows
invariant-rows l =
    l.text.items ≡ l.fn.text.items ++ flat_map (drawn_where (record { links = l.links; terminators = l.terminators }) l.kind) (take l.row-index l.rows)
