use Rattle.std.proofs.Common.{◌≡◌, ℕ, take}
use Rattle.grant_denorm.specs.CountsAfter.{steps_at}
use Rattle.grant_denorm.specs.PairCounts.{count_of}
use Rattle.grant_denorm.proofs.after.tally.Given as goal

-- so far the steps that were looked at are counted
abbrev pub invariant-steps : goal.invariant-steps
invariant-steps l = (p q : ℕ) → count_of l.tally p q ≡ steps_at l.up (take l.step-index l.steps) p q
