use Rattle.std.proofs.Common.{◌≡◌, take}
use Rattle.record_tables.specs.AfterChange.{without_numbers}
use Rattle.record_tables.proofs.removing.lose_all.Given as goal

-- the records of the numbers that were passed are gone
abbrev pub invariant-numbers : goal.invariant-numbers
invariant-numbers g l = g.T.Losing.table l.table ≡ without_numbers (take l.number-index l.gone) (g.T.Losing.table l.fn.table)
