use Rattle.std.proofs.Common.{◌≡◌, ◌++◌, take}
use Rattle.std.specs.List.{flat_map}
use Rattle.state_building.specs.BuiltStates.{state_in}
use Rattle.dump_lines.specs.RowDumps.{dumped_where}
use Rattle.dump_lines.proofs.dumping.put_sections.Given as goal

-- the lines of the sections so far
abbrev pub invariant-sections : goal.invariant-sections
invariant-sections l =
    l.text.items ≡ l.fn.text.items ++ flat_map (λ m. flat_map (dumped_where m (state_in l.rows)) l.rows) (take l.listed-index l.sections)
