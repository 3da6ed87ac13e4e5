use Rattle.std.proofs.Common.{◌≡◌, ◌≤◌, ◌<◌, ℕ, true}
use Rattle.bit_lanes.proofs.place_tests.words_pass.Given as goal

-- each place so far passes
abbrev pub invariant-words : goal.invariant-words
invariant-words g l = (n : ℕ) → l.from ≤ n → n < l.place → g.T.PlaceTest.passes l.test n ≡ true
