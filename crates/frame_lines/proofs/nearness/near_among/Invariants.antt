use Rattle.std.proofs.Common.{◌≡◌, drop, map}
use Rattle.frame_lines.specs.NearNames.{near_among}
use Rattle.frame_lines.proofs.nearness.near_among.Given as goal

-- the rows from the index on give the word what all rows give it
abbrev pub invariant-rows : goal.invariant-rows
invariant-rows l = near_among (map (λ row. (row.0, row.1.now)) (drop l.name-index l.rows)) l.word ≡ near_among (map (λ row. (row.0, row.1.now)) l.rows) l.word
