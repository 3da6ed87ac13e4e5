use Rattle.std.proofs.Common.{◌≡◌, ℕ, Result, Err}
use Rattle.attr_pool.specs.declared.pool.PoolFault.{PoolFault}
use Rattle.attr_pool.specs.declared.pool.PoolFault.TheVariants.{Full, NoMemory}
use Rattle.attr_pool.proofs.RoomLaws.{slot_left}
use Rattle.attr_pool.proofs.UseLaws.{count_left}
use Rattle.attr_pool.proofs.uses.intern_each.Goals as goal

-- a call that fails where neither of its faults can come
neither : (P Q : Type 0) (r : Result ℕ PoolFault) (f : PoolFault) → r ≡ Err f → (r ≡ Err Full → P) → (r ≡ Err NoMemory → Q) → (P → ⊥) → (Q → ⊥) → ⊥
neither P Q r Full e p q no_p no_q = no_p (p e)
neither P Q r NoMemory e p q no_p no_q = no_q (q e)

pub unreachable-requires : goal.unreachable-requires
unreachable-requires c =
    neither _ _ c.intern_in.result c.in-Err._fault c.in-Err.is c.intern_in.ensures.full.0 c.intern_in.ensures.memory.0
    (slot_left c.args.slots.now c.names.slots c.args.names.now c.names.name-index c.name-item.result c.names.invariant.pool c.requires.room c.names.invariant.so_far c.names-test.true c.name-item.is)
    (count_left c.args.slots.now c.names.slots c.args.names.now c.names.name-index c.name-item.result c.requires.counted c.names.invariant.so_far c.names-test.true c.name-item.is)
