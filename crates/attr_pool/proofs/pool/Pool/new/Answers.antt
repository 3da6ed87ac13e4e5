use Rattle.attr_pool.proofs.SlotLemmas.{IsPool-free}
use Rattle.attr_pool.proofs.pool.Pool.new.Goals as goal

pub invariant_of-result : goal.invariant_of-result
invariant_of-result c = IsPool-free c.in_ok-slots.slots c.in_ok-slots.ensures.long c.in_ok-slots.ensures.free
