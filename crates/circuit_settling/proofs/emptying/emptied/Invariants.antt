use Rattle.std.proofs.Common.{take}
use Rattle.grant_denorm.specs.CountsAfter.{count_after}
use Rattle.circuit_settling.specs.EmptiedPairs.{TellEmptied}
use Rattle.circuit_settling.proofs.emptying.emptied.Given as goal

-- so far the pairs without a count at which a step goes down are told
abbrev pub invariant-steps : goal.invariant-steps
invariant-steps l = TellEmptied (take l.step-index l.steps) (count_after l.after) l.pairs
