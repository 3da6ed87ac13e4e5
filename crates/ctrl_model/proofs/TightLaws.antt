-- Laws on tight links: a route along which each hop costs what the values fall by.
use Rattle.std.proofs.Common.{◌≡◌, ℕ, ◌+◌, ◌<◌, ◌≤◌, ◌==◌, ◌&&◌, nat_lt, true, false, ◌⊎◌, inl, inr, List, [], ◌∷◌, Some, sym, ◌∙◌, ap, arith, eqb-true, le_trans, le_of_eq, le_of_lt}
use Rattle.std.proofs.lemmas.Bool.{false_from_ne_true, or_cases}
use Rattle.ctrl_model.specs.Walks.{Hops, is_among, goes, cost_along}
use Rattle.ctrl_model.specs.Claims.{no_path, is_tight}
use Rattle.ctrl_model.proofs.Tests.{three_parts}
use Rattle.ctrl_model.proofs.WalkLaws.{by_there, goes_more, cost_along-more}

-- where each hop costs something, tight links lead to places of ever lower values, so to new ones
pub tight_goes : (hop : Hops) (value : ℕ → ℕ) (t : ℕ) → ((v l : ℕ) (h : ℕ × ℕ) → hop v l ≡ Some h → 1 ≤ h.1)
    → (ls seen : List ℕ) (v : ℕ) → ((x : ℕ) → is_among x seen ≡ true → value v ≤ value x) → is_tight hop value t v ls ≡ true → goes hop t seen v ls ≡ true
tight_goes hop value t costs [] seen v least g = g
tight_goes hop value t costs (l ∷ ls) seen v least g =
    by_there (λ (h : ℕ × ℕ). (value v == h.1 + value h.0) && (nat_lt (value v) no_path && is_tight hop value t h.0 ls)) (hop v l) g (λ h is all.
    step h is (three_parts (value v == h.1 + value h.0) (nat_lt (value v) no_path) (is_tight hop value t h.0 ls) all) (tight_goes hop value t costs ls (h.0 ∷ seen) h.0))
  where
    lower : (h : ℕ × ℕ) → hop v l ≡ Some h → (value v == h.1 + value h.0) ≡ true → value h.0 < value v
    lower h is e = falls (value v) h.1 (value h.0) (eqb-true (value v) (h.1 + value h.0) e) (costs v l h is)
      where
        falls : (a b c : ℕ) → a ≡ b + c → 1 ≤ b → c < a
        falls a b c s p = omega arith

    step : (h : ℕ × ℕ) → hop v l ≡ Some h
        → ((value v == h.1 + value h.0) ≡ true) × (nat_lt (value v) no_path ≡ true) × (is_tight hop value t h.0 ls ≡ true)
        → (((x : ℕ) → is_among x (h.0 ∷ seen) ≡ true → value h.0 ≤ value x) → is_tight hop value t h.0 ls ≡ true → goes hop t (h.0 ∷ seen) h.0 ls ≡ true)
        → goes hop t seen v (l ∷ ls) ≡ true
    step h is p on = goes_more hop t seen v l ls h is new (on still p.2)
      where
        new : is_among h.0 seen ≡ false
        new = false_from_ne_true (is_among h.0 seen) (λ e. not_both (value h.0) (value v) (lower h is p.0) (least h.0 e))
          where
            not_both : (a b : ℕ) → a < b → b ≤ a → ⊥
            not_both a b p q = absurd (omega arith)

        still : (x : ℕ) → is_among x (h.0 ∷ seen) ≡ true → value h.0 ≤ value x
        still x e = either (or_cases (h.0 == x) (is_among x seen) e)
          where
            either : ((h.0 == x) ≡ true) ⊎ (is_among x seen ≡ true) → value h.0 ≤ value x
            either (inl s) = le_of_eq (ap value (eqb-true h.0 x s))
            either (inr m) = le_trans (le_of_lt (lower h is p.0)) (least x m)

-- tight links cost what the value is
pub tight_cost : (hop : Hops) (value : ℕ → ℕ) (t : ℕ) → value t ≡ 0 → (ls : List ℕ) (v : ℕ) → is_tight hop value t v ls ≡ true → cost_along hop v ls ≡ value v
tight_cost hop value t zero [] v g = sym (ap value (eqb-true v t g) ∙ zero)
tight_cost hop value t zero (l ∷ ls) v g =
    by_there (λ (h : ℕ × ℕ). (value v == h.1 + value h.0) && (nat_lt (value v) no_path && is_tight hop value t h.0 ls)) (hop v l) g (λ h is all.
    step h is (three_parts (value v == h.1 + value h.0) (nat_lt (value v) no_path) (is_tight hop value t h.0 ls) all) (tight_cost hop value t zero ls h.0))
  where
    step : (h : ℕ × ℕ) → hop v l ≡ Some h
        → ((value v == h.1 + value h.0) ≡ true) × (nat_lt (value v) no_path ≡ true) × (is_tight hop value t h.0 ls ≡ true)
        → (is_tight hop value t h.0 ls ≡ true → cost_along hop h.0 ls ≡ value h.0) → cost_along hop v (l ∷ ls) ≡ value v
    step h is p rest = cost_along-more hop v l ls h is ∙ (ap (λ n. h.1 + n) (rest p.2) ∙ sym (eqb-true (value v) (h.1 + value h.0) p.0))
