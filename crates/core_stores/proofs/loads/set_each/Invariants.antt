use Rattle.std.proofs.Common.{take}
use Rattle.grant_denorm.specs.PairCounts.{count_of}
use Rattle.core_stores.specs.OpenCircuits.{SetsEach}
use Rattle.core_stores.proofs.loads.set_each.Given as goal

-- so far the loads of the numbers that were looked at are set
abbrev pub invariant-numbers : goal.invariant-numbers
invariant-numbers l = SetsEach (λ n. count_of l.loads n 0) (take l.number-index l.numbers) l.fn.terminators l.terminators
