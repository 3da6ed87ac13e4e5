use Rattle.std.proofs.Common.{sym, true≢false}
use Rattle.slot_reading.proofs.BatchLaws.{no_room}
use Rattle.row_store.proofs.sizing.fits.Goals as goal

pub returns-then-left-size : goal.returns-then-left-size
returns-then-left-size c = (
  λ t. absurd (true≢false (sym t)),
  λ h. absurd (no_room c.args.ops.now c.ops.op-index c.op-item.result c.ops.left c.args.room c.op_size-size.result c.ops-test.true c.op-item.is c.op_size-size.ensures c.ops.invariant c.if-left-size.true h),
)
