use Rattle.std.proofs.Common.{take}
use Rattle.grant_denorm.specs.PairCounts.{count_of}
use Rattle.grant_denorm.specs.TakenSteps.{Taken}
use Rattle.grant_denorm.proofs.applying.apply_changes.Given as goal

abbrev pub invariant-changes : goal.invariant-changes
invariant-changes l = Taken l.fn.counted (count_of l.counted) (take l.change-index l.changes)
