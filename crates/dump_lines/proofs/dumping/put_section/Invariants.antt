use Rattle.std.proofs.Common.{◌≡◌, ◌++◌, take}
use Rattle.std.specs.List.{flat_map}
use Rattle.state_building.specs.BuiltStates.{state_in}
use Rattle.dump_lines.specs.RowDumps.{dumped_where}
use Rattle.dump_lines.proofs.dumping.put_section.Given as goal

-- the lines of the rows so far
abbrev pub invariant-rows : goal.invariant-rows
invariant-rows l = l.text.items ≡ l.fn.text.items ++ flat_map (dumped_where l.listed (state_in l.rows)) (take l.row-index l.rows)
