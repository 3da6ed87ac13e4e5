-- How many circuits end at a number, one circuit after another.
use Rattle.std.proofs.Common.{◌≡◌, ℕ, ◌+◌, ◌==◌, cond, List, ◌∷◌, count_by, ap, arith}
use Rattle.std.proofs.lemmas.Grind.{common_steps}
use Rattle.std.proofs.lemmas.List.Sums.{sum_by-cons}
use Rattle.ctrl_model.specs.State.{Circuit}
use Rattle.grant_denorm.specs.PairCounts.{same_pair}

-- a pair with 0 is another one exactly where their numbers are the same
same_end : (n m : ℕ) → ◌≡◌ {A = ℕ} (cond (same_pair (n, 0) (m, 0)) 1 0) (cond (m == n) 1 0)
same_end n m = grind (arith, common_steps)

-- where the first of some circuits is counted, it is no more among those that are left
pub one_counted : (rows rest : List (ℕ × Circuit)) (k : ℕ) (c : Circuit) (n so_far now all : ℕ) → rows ≡ (k, c) ∷ rest → so_far + count_by (λ row. row.1.terminator == n) rows ≡ all
    → now ≡ so_far + cond (same_pair (n, 0) (c.terminator, 0)) 1 0 → now + count_by (λ row. row.1.terminator == n) rest ≡ all
one_counted rows rest k c n so_far now all is before after =
    let here = ap (count_by (λ (row : ℕ × Circuit). row.1.terminator == n)) is in
    let more = sum_by-cons (λ (row : ℕ × Circuit). cond (row.1.terminator == n) 1 0) (k, c) rest in
    let same = same_end n c.terminator in
    omega (arith, here, more, same, before, after)
