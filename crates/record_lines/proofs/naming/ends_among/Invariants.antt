use Rattle.std.proofs.Common.{◌≡◌, drop}
use Rattle.record_lines.specs.RowTexts.{ends_among}
use Rattle.record_lines.proofs.naming.ends_among.Given as goal

-- the rows so far say no ends
abbrev pub invariant-rows : goal.invariant-rows
invariant-rows l = ends_among l.rows l.link ≡ ends_among (drop l.row-index l.rows) l.link
