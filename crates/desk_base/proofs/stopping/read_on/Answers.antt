use Rattle.std.proofs.Common.{refl}
use Rattle.desk_base.proofs.stopping.read_on.Goals as goal

pub returns-then-done : goal.returns-then-done
returns-then-done c = rw (c.in-Wrote.is, c.if-done.true, ← c.parted.ensures.first) c.put.ensures

pub returns-else-done : goal.returns-else-done
returns-else-done c = rw (c.in-Wrote.is, c.if-done.false) refl

pub returns-then-done-2 : goal.returns-then-done-2
returns-then-done-2 c = rw (c.in-Cut.is, c.if-done-2.true) c.cut.ensures

pub returns-else-done-2 : goal.returns-else-done-2
returns-else-done-2 c = rw (c.in-Cut.is, c.if-done-2.false) refl

pub returns-in-Said : goal.returns-in-Said
returns-in-Said c = rw c.in-Said.is refl

pub returns-in-Synced : goal.returns-in-Synced
returns-in-Synced c = rw c.in-Synced.is refl
