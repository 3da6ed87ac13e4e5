-- A request that is granted Dial, where circuits are not full, gets a route exactly where there is a candidate.
use Rattle.std.proofs.Common.{◌≡◌, ℕ, ◌+◌, ◌==◌, ◌&&◌, cond, true, false, List, [], ◌∷◌, Some, None, refl, sym, ap, subst₂, ◌∙◌, eq-eqb}
use Rattle.ctrl_model.specs.declared.refusals.Denial.{Denial}
use Rattle.ctrl_model.specs.Choices.{Ask, Candidate, candidates_for, first_rule, rank}
use Rattle.ctrl_model.specs.Matches.{is_nothing}
use Rattle.ctrl_model.specs.Networks.{Network}
use Rattle.ctrl_model.specs.Ranks.{first_of, least_by}
use Rattle.model_laws.proofs.RuleLaws.{first_rule-none}
use Rattle.circuit_rules.specs.declared.views.Route.{Route}
use Rattle.circuit_rules.specs.Decisions.{Grants}
use Rattle.grant_denorm.specs.PairCounts.{Raises, count_of}
use Rattle.policy_advisor.specs.Advice.{plain_ask}
use Rattle.access_reasons.specs.Steps.{granted_by}

-- a pair that was raised where there was none has a count
pub raised : (c : List ((ℕ × ℕ) × ℕ)) (i s : ℕ) → Raises [] c i s → (count_of c i s == 0) ≡ false
raised c i s h = ap (λ n. n == 0) (h i s ∙ (λ k. 0 + cond (eq-eqb i i refl k && eq-eqb s s refl k) 1 0))

-- where it gets one there is a candidate
found : (w : Network) (dial : ℕ → ℕ → ℕ) (i s : ℕ) (r : Route) → Grants (granted_by w dial) (plain_ask (Some i) (Some s)) r
    → is_nothing (candidates_for w (plain_ask (Some i) (Some s)) i s) ≡ false
found w dial i s r g = by (candidates_for w (plain_ask (Some i) (Some s)) i s) g.is_best
  where
    by : (cs : List Candidate) → least_by rank cs ≡ Some g.chosen → is_nothing cs ≡ false
    by [] e = absurd (cc)
    by (c ∷ cs) e = refl

pub found-by : (w v : Network) (dial : ℕ → ℕ → ℕ) (ask : Ask) (i s : ℕ) (r : Route) → v ≡ granted_by w dial → ask ≡ plain_ask (Some i) (Some s) → Grants v ask r
    → is_nothing (candidates_for w (plain_ask (Some i) (Some s)) i s) ≡ false
found-by w v dial ask i s r net is g = found w dial i s r (subst₂ (λ x y. Grants x y r) net is g)

-- where it gets none there is none
denied : (w : Network) (dial : ℕ → ℕ → ℕ) (i s : ℕ) (d : Denial) → (dial i s == 0) ≡ false → first_rule (granted_by w dial) (plain_ask (Some i) (Some s)) ≡ Some d
    → is_nothing (candidates_for w (plain_ask (Some i) (Some s)) i s) ≡ true
denied w dial i s d dials e = by (candidates_for w (plain_ask (Some i) (Some s)) i s) refl
  where
    by : (cs : List Candidate) → candidates_for w (plain_ask (Some i) (Some s)) i s ≡ cs → is_nothing cs ≡ true
    by [] is = refl
    by (c ∷ cs) is = absurd (none_some (sym none ∙ e))
      where
        none : first_rule (granted_by w dial) (plain_ask (Some i) (Some s)) ≡ None
        none = (first_rule-none (granted_by w dial) (plain_ask (Some i) (Some s))).1 (record {
          identity = i;
          service = s;
          who = refl;
          what = refl;
          dials = dials;
          chosen = first_of rank c (least_by rank cs);
          is_chosen = ap (least_by rank) is;
          room = refl;
        })

        none_some : None ≡ Some d → ⊥
        none_some h = absurd (cc)

pub denied-by : (w v : Network) (dial : ℕ → ℕ → ℕ) (ask : Ask) (i s : ℕ) (d : Denial) → v ≡ granted_by w dial → ask ≡ plain_ask (Some i) (Some s) → (dial i s == 0) ≡ false
    → first_rule v ask ≡ Some d → is_nothing (candidates_for w (plain_ask (Some i) (Some s)) i s) ≡ true
denied-by w v dial ask i s d net is dials e = denied w dial i s d dials (subst₂ (λ x y. first_rule x y ≡ Some d) net is e)
