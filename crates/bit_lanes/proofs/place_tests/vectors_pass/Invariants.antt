use Rattle.std.proofs.Common.{◌≡◌, ◌*◌, ◌<◌, ℕ, true}
use Rattle.bit_lanes.proofs.place_tests.vectors_pass.Given as goal

-- each place of the vectors so far passes
abbrev pub invariant-vectors : goal.invariant-vectors
invariant-vectors g l = (n : ℕ) → n < l.vector * 8 → g.T.PlaceTest.passes l.test n ≡ true
