use Rattle.std.proofs.Common.{◌≡◌, drop}
use Rattle.state_building.specs.BuiltStates.{next_in}
use Rattle.row_loading.proofs.nexts.next_in.Given as goal

-- the rows so far have no next number of the kind
abbrev pub invariant-rows : goal.invariant-rows
invariant-rows l = next_in l.rows l.kind ≡ next_in (drop l.row-index l.rows) l.kind
