use Rattle.std.proofs.Common.{◌≡◌, drop, map}
use Rattle.frame_lines.specs.TypeNames.{number_among}
use Rattle.frame_lines.proofs.types.number_among.Given as goal

-- the rows from the index on give the name what all rows give it
abbrev pub invariant-rows : goal.invariant-rows
invariant-rows l = number_among (map (λ row. (row.0, row.1.now)) (drop l.number-index l.rows)) l.name ≡ number_among (map (λ row. (row.0, row.1.now)) l.rows) l.name
