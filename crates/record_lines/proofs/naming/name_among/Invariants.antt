use Rattle.std.proofs.Common.{◌≡◌, drop}
use Rattle.record_lines.specs.RowTexts.{name_among}
use Rattle.record_lines.proofs.naming.name_among.Given as goal

-- the rows so far say no name
abbrev pub invariant-rows : goal.invariant-rows
invariant-rows l = name_among l.rows l.kind l.no ≡ name_among (drop l.row-index l.rows) l.kind l.no
