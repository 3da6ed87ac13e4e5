use Rattle.std.proofs.Common.{arith}
use Rattle.attr_pool.specs.Uses.{uses_of}
use Rattle.attr_pool.proofs.SlotKeeping.{kept-then}
use Rattle.attr_pool.proofs.UseLaws.{still_used, one_fewer}
use Rattle.attr_pool.proofs.uses.release_each.Goals as goal

pub release_in-requires-clause-used : goal.release_in-requires-clause-used
release_in-requires-clause-used c =
    still_used (λ q. uses_of q c.args.slots.now) (λ q. uses_of q c.names.slots) c.args.names.now c.names.name-index c.name-item.result c.names-test.true c.name-item.is c.names.invariant.so_far c.requires.used

pub names-preserved : goal.names-preserved
names-preserved c = record {
  so_far = one_fewer (λ q. uses_of q c.args.slots.now) (λ q. uses_of q c.names.slots) c.args.names.now c.names.name-index c.name-item.result c.names-test.true c.name-item.is (λ q. uses_of q c.release_in.new.slots) c.names.invariant.so_far c.release_in.ensures.uses;
  slots = kept-then c.args.slots.now c.names.slots c.release_in.new.slots c.names.invariant.slots c.release_in.ensures.slots (λ q u v. let less = c.release_in.ensures.uses q in omega (arith, v, less));
  pool = c.release_in.ensures.pool;
}
