use Rattle.std.proofs.Common.{take}
use Rattle.slot_reading.specs.BatchRows.{rows_in}
use Rattle.slot_reading.proofs.BatchLaws.{Changed}
use Rattle.slot_reading.proofs.changing.change_all.Given as goal

abbrev pub invariant-ops : goal.invariant-ops
invariant-ops l = Changed (rows_in l.fn.rows.entries) (rows_in l.rows.entries) (take l.op-index l.ops)
