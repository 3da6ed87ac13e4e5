use Rattle.std.proofs.Common.{◌≡◌, ℕ, ◌+◌, ◌&&◌, not, Bool, true, false, cond, refl, ◌∙◌, ap, arith}
use Rattle.grant_denorm.specs.Deltas.{ups, downs, has_pair}
use Rattle.grant_denorm.proofs.deltas.deltas_policy.Goals as goal

gained : (s t : Bool) → ◌≡◌ {A = ℕ} ((0 + 0) + cond (s && not t) 1 0) (cond (not t && s) 1 0)
gained true true = refl
gained true false = refl
gained false true = refl
gained false false = refl

pub returns-clause-up : goal.returns-clause-up
returns-clause-up c a b =
    c.in_ok-push_missing-2.ensures.up a b
    ∙ ap (λ n. n + cond (has_pair c.args.after.now a b && not (has_pair c.args.before.now a b)) 1 0)
    (c.in_ok-push_missing.ensures.up a b ∙ ap (λ ds. ups ds a b + 0) c.new-deltas.ensures.items)
    ∙ gained (has_pair c.args.after.now a b) (has_pair c.args.before.now a b)

alone : (n : ℕ) → (0 + n) + 0 ≡ n
alone n = omega arith

pub returns-clause-down : goal.returns-clause-down
returns-clause-down c a b =
    c.in_ok-push_missing-2.ensures.down a b
    ∙ ap (λ n. n + 0)
    (c.in_ok-push_missing.ensures.down a b
    ∙ ap (λ ds. downs ds a b + cond (has_pair c.args.before.now a b && not (has_pair c.args.after.now a b)) 1 0) c.new-deltas.ensures.items)
    ∙ alone (cond (has_pair c.args.before.now a b && not (has_pair c.args.after.now a b)) 1 0)
