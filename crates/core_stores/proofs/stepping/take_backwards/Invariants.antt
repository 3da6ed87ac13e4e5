use Rattle.std.proofs.Common.{◌≤◌, drop, length}
use Rattle.grant_denorm.specs.PairCounts.{count_of}
use Rattle.grant_denorm.specs.TakenSteps.{Taken}
use Rattle.core_stores.proofs.stepping.take_backwards.Given as goal

-- the steps behind those that are left are taken
abbrev pub invariant-steps : goal.invariant-steps
invariant-steps l = record {
  within : l.left ≤ length l.steps;
  taken : Taken l.fn.counted (count_of l.counted) (drop l.left l.steps);
}

abbrev pub decreases-steps : goal.decreases-steps
decreases-steps l = l.left
