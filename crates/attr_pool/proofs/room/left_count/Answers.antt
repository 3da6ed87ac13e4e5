use Rattle.std.proofs.Common.{arith}
use Rattle.attr_pool.specs.Moving.{leaves}
use Rattle.attr_pool.proofs.RoomLaws.{last_one, not_last}
use Rattle.attr_pool.proofs.room.left_count.Goals as goal
use Rattle.attr_pool.proofs.room.left_count.Goals.{then-is_last_to_leave, else-is_last_to_leave}

pub names-preserved : goal.names-preserved
names-preserved c =
    elim c.if-is_last_to_leave.branch [
      | then-is_last_to_leave w ↦
          let step = last_one (leaves c.args.slots.now c.args.gone.now c.args.fresh.now) c.args.gone.now c.names.at c.index-gone-at.result c.names-test.true c.index-gone-at.is c.is_last_to_leave.result c.is_last_to_leave.ensures w.if-is_last_to_leave.true in
          record { few = omega (arith, c.names.invariant.few, w.count-is); so_far = omega (arith, step, c.names.invariant.so_far, w.count-is) }
      | else-is_last_to_leave w ↦
          let step = not_last (leaves c.args.slots.now c.args.gone.now c.args.fresh.now) c.args.gone.now c.names.at c.index-gone-at.result c.names-test.true c.index-gone-at.is c.is_last_to_leave.result c.is_last_to_leave.ensures w.if-is_last_to_leave.false in
          record { few = omega (arith, c.names.invariant.few, w.count-is); so_far = omega (arith, step, c.names.invariant.so_far, w.count-is) }
    ]
