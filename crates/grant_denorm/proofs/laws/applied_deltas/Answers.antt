use Rattle.std.proofs.Common.{◌≡◌, ℕ, ◌+◌, ◌&&◌, cond, not, ◌∙◌, sym, ap, arith}
use Rattle.std.proofs.lemmas.List.Sorted.{sum_by-IsPermutation}
use Rattle.grant_denorm.specs.PairCounts.{count_of}
use Rattle.grant_denorm.specs.Deltas.{is_at, ups, downs}
use Rattle.grant_denorm.proofs.laws.applied_deltas.Goals as goal

same_end : (n m d u k : ℕ) → n + d ≡ k + u → m + d ≡ k + u → n ≡ m
same_end n m d u k e f = omega arith

pub returns-clause-rule : goal.returns-clause-rule
returns-clause-rule c before after old new ds counts moved by_rule p q =
    same_end (count_of new p q) (after p q) (downs ds p q) (ups ds p q) (before p q) (moved p q ∙ ap (λ n. n + ups ds p q) (counts p q)) (by_rule p q)

pub returns-clause-order : goal.returns-clause-order
returns-clause-order c before after ds others p moved a b =
    ap (λ n. after a b + n) (sum_by-IsPermutation (λ d. cond (not d.up && is_at a b d) 1 0) ds others p) ∙ moved a b
    ∙ sym (ap (λ n. before a b + n) (sum_by-IsPermutation (λ d. cond (d.up && is_at a b d) 1 0) ds others p))
