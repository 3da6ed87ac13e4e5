use Rattle.std.proofs.Common.{arith}
use Rattle.attr_pool.specs.Moving.{is_new}
use Rattle.attr_pool.proofs.RoomLaws.{last_one, not_last}
use Rattle.attr_pool.proofs.room.new_count.Goals as goal
use Rattle.attr_pool.proofs.room.new_count.Goals.{then-is_last_new, else-is_last_new}

pub names-preserved : goal.names-preserved
names-preserved c =
    elim c.if-is_last_new.branch [
      | then-is_last_new w ↦
          let step = last_one (is_new c.args.slots.now) c.args.fresh.now c.names.at c.index-fresh-at.result c.names-test.true c.index-fresh-at.is c.is_last_new.result c.is_last_new.ensures w.if-is_last_new.true in
          record { few = omega (arith, c.names.invariant.few, w.count-is); so_far = omega (arith, step, c.names.invariant.so_far, w.count-is) }
      | else-is_last_new w ↦
          let step = not_last (is_new c.args.slots.now) c.args.fresh.now c.names.at c.index-fresh-at.result c.names-test.true c.index-fresh-at.is c.is_last_new.result c.is_last_new.ensures w.if-is_last_new.false in
          record { few = omega (arith, c.names.invariant.few, w.count-is); so_far = omega (arith, step, c.names.invariant.so_far, w.count-is) }
    ]
