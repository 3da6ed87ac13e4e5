use Rattle.std.proofs.Common.{◌-◌}
use Rattle.attr_pool.proofs.ChainLaws.{Looking}
use Rattle.attr_pool.proofs.chains.slot_in.Given as goal

abbrev pub invariant-chain : goal.invariant-chain
invariant-chain l = Looking l.chained.slots.items l.name l.number

abbrev pub decreases-chain : goal.decreases-chain
decreases-chain l = 4096 - l.number
