use Rattle.std.proofs.Common.{◌≡◌, ℕ, ◌+◌, ◌&&◌, not, Bool, true, false, cond, refl, sym, ◌∙◌, ap}
use Rattle.grant_denorm.specs.Deltas.{has_pair}
use Rattle.grant_denorm.specs.MovedCounts.{grants_of}
use Rattle.grant_denorm.proofs.laws.steps_of_a_policy.Goals as goal

moved : (s t : Bool) → ◌≡◌ {A = ℕ} (cond t 1 0 + cond (s && not t) 1 0) (cond s 1 0 + cond (not s && t) 1 0)
moved true true = refl
moved true false = refl
moved false true = refl
moved false false = refl

pub returns : goal.returns
returns c before after ds up down a b =
    ap (λ n. grants_of after a b + n) (down a b) ∙ moved (has_pair before a b) (has_pair after a b) ∙ sym (ap (λ n. grants_of before a b + n) (up a b))
