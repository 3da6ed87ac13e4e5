use Rattle.std.proofs.Common.{◌≡◌, drop, map}
use Rattle.frame_lines.specs.TypeNames.{name_among}
use Rattle.frame_lines.proofs.types.name_among.Given as goal

-- the rows from the index on give the number what all rows give it
abbrev pub invariant-rows : goal.invariant-rows
invariant-rows l = name_among (map (λ row. (row.0, row.1.now)) (drop l.known-index l.rows)) l.number ≡ name_among (map (λ row. (row.0, row.1.now)) l.rows) l.number
