use Rattle.std.proofs.Common.{take}
use Rattle.grant_denorm.specs.TakenSteps.{Taken}
use Rattle.grant_rows.specs.MovedCounts.{count_so_far}
use Rattle.grant_rows.proofs.stepping.take_steps.Given as goal

abbrev pub invariant-steps : goal.invariant-steps
invariant-steps l = Taken l.counted (count_so_far l.moved.entries l.counted) (take l.step-index l.steps)
