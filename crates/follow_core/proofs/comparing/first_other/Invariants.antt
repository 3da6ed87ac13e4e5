use Rattle.std.proofs.Common.{◌≡◌, ◌+◌, length}
use Rattle.follow_core.specs.Following.{first_other}
use Rattle.follow_core.proofs.comparing.first_other.Given as goal

-- so many bytes are the same, and the first place that differs is sought in those behind them
abbrev pub invariant-bytes : goal.invariant-bytes
invariant-bytes l = record {
  place : l.at + first_other l.left l.right ≡ first_other l.these l.others;
  within : l.at + length l.right ≡ length l.others;
}

abbrev pub decreases-bytes : goal.decreases-bytes
decreases-bytes l = length l.left
