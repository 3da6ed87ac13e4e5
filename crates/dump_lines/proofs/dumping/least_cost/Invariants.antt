use Rattle.std.proofs.Common.{◌≡◌, drop}
use Rattle.dump_lines.specs.RowDumps.{cost_in}
use Rattle.dump_lines.proofs.dumping.least_cost.Given as goal

-- the rows that are left make the cost of all
abbrev pub invariant-rows : goal.invariant-rows
invariant-rows l = cost_in l.cost (drop l.row-index l.rows) ≡ cost_in 10 l.rows
