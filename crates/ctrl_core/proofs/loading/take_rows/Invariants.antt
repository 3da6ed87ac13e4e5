use Rattle.std.proofs.Common.{take}
use Rattle.state_building.specs.BuiltStates.{next_in}
use Rattle.ctrl_core.proofs.LoadedLaws.{AreTaken}
use Rattle.ctrl_core.proofs.loading.take_rows.Given as goal

-- the rows so far are taken
abbrev pub invariant-rows : goal.invariant-rows
invariant-rows l = AreTaken (next_in l.rows) (take l.place l.rows) l.fn.stores l.stores
