use Rattle.std.proofs.Common.{◌≡◌, ℕ, ◌+◌, ◌==◌, count_by}
use Rattle.grant_denorm.specs.PairCounts.{count_of}
use Rattle.circuits.proofs.ends.tally_in.Given as goal

-- those so far and those among the circuits that are left are all
abbrev pub invariant-circuits : goal.invariant-circuits
invariant-circuits l = (n : ℕ) → count_of l.ends n 0 + count_by (λ row. row.1.terminator == n) l.circuit-iterator ≡ count_by (λ row. row.1.terminator == n) l.granted.rows
