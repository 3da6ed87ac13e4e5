use Rattle.std.proofs.Common.{◌≡◌, take}
use Rattle.std.specs.List.{flat_map}
use Rattle.state_building.specs.BuiltStates.{state_in}
use Rattle.record_lines.specs.RowTexts.{is_asked, line_where}
use Rattle.record_lines.proofs.listing.lines_asked.Given as goal

-- the lines of the rows so far
abbrev pub invariant-rows : goal.invariant-rows
invariant-rows l = l.text.items ≡ flat_map (line_where (is_asked l.listed l.word (state_in l.rows)) (state_in l.rows)) (take l.row-index l.rows)
