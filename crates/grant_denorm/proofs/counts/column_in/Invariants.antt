use Rattle.std.proofs.Common.{◌≡◌, ℕ, List, nat_lt, map, take}
use Rattle.std.specs.List.{filter}
use Rattle.grant_denorm.specs.FlatRows.{count_in}
use Rattle.grant_denorm.proofs.counts.column_in.Given as goal

-- the left numbers of the rows so far that have the right number
abbrev pub invariant-rows : goal.invariant-rows
invariant-rows l = l.column.items ≡ map (λ (r : ℕ × List (ℕ × ℕ)). r.0) (filter (λ r. nat_lt 0 (count_in r.1 l.b)) (take l.row-index l.rows))
