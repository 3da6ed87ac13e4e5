use Rattle.entity_store.proofs.AllListedLaws.{nothing_listed}
use Rattle.entity_store.proofs.KeptLaws.{nothing_kept}
use Rattle.entity_store.proofs.entities.Entities.new.Goals as goal

pub invariant_of-result : goal.invariant_of-result
invariant_of-result c =
    rw (c.new-2.ensures, c.new-3.ensures, c.new-4.ensures, c.new-5.ensures, c.new-6.ensures, c.new-7.ensures, c.new-8.ensures.items)
    (nothing_kept c.in_ok-pool.pool c.in_ok-pool.ensures.free, nothing_listed c.in_ok-pool.pool)
