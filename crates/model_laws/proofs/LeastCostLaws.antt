-- Laws on least costs: the least of some numbers, that a network's least costs are the least that walks cost, that least costs
-- allow no hop that improves one, and that a least walk is a chain of tight hops.
use Rattle.std.proofs.Common.{◌≡◌, ℕ, ◌+◌, ◌<◌, ◌≤◌, min, ◌==◌, ◌||◌, ◌&&◌, nat_lt, Bool, true, false, ◌⊎◌, inl, inr, List, [], ◌∷◌, map, length, Some, refl, ◌∙◌, ap, subst, arith, eqb-true, eq-eqb, ne_eqb, lt-ltb, le_refl, le_of_eq, cond}
use Rattle.std.proofs.lemmas.Bool.{and_parts, and_from, cases_eq, cases_order, false≢true, or_from}
use Rattle.std.specs.Option.{option_map_or}
use Rattle.ctrl_model.specs.Membership.{Among}
use Rattle.ctrl_model.specs.Walks.{Hops, is_among, goes, cost_along, walks}
use Rattle.ctrl_model.specs.Numbered.{numbers}
use Rattle.ctrl_model.specs.Networks.{Network, is_on, hops, is_path, path_cost, paths}
use Rattle.ctrl_model.specs.Claims.{no_path, least_number, least_cost, is_tight}
use Rattle.ctrl_model.proofs.Members.{Among-map, by_map}
use Rattle.ctrl_model.proofs.WalkLaws.{by_goes, goes_more, cost_along-more, goes_alone, Shorter, around}
use Rattle.model_laws.proofs.PathLaws.{paths-is_path}
use Rattle.model_laws.proofs.PlainPathLaws.{is_on-start}

-- ---- the least of some numbers

pub least_number-le : (ns : List ℕ) (n : ℕ) → Among n ns → least_number ns ≤ n
least_number-le [] n m = absurd m
least_number-le (k ∷ ns) n (inl e) = omega arith
least_number-le (k ∷ ns) n (inr m) = let rest : least_number ns ≤ n = least_number-le ns n m in omega arith

pub least_number-most : (ns : List ℕ) → least_number ns ≤ no_path
least_number-most [] = le_refl no_path
least_number-most (k ∷ ns) = let rest : least_number ns ≤ no_path = least_number-most ns in omega arith

-- it is one of them, or that of no path
pub least_number-among : (ns : List ℕ) → (least_number ns ≡ no_path) ⊎ Among (least_number ns) ns
least_number-among [] = inl refl
least_number-among (k ∷ ns) = pick k (least_number ns) (least_number-among ns)
  where
    pick : (k m : ℕ) → (m ≡ no_path) ⊎ Among m ns → (min k m ≡ no_path) ⊎ ((k ≡ min k m) ⊎ Among (min k m) ns)
    pick k m there = apart (cases_order k m) there
      where
        apart : (k ≡ m) ⊎ ((k < m) ⊎ (m < k)) → (m ≡ no_path) ⊎ Among m ns → (min k m ≡ no_path) ⊎ ((k ≡ min k m) ⊎ Among (min k m) ns)
        apart (inl s) _ = inr (inl (omega arith))
        apart (inr (inl h)) _ = inr (inl (omega arith))
        apart (inr (inr h)) (inl e) = let least : min k m ≡ m = omega arith in inl (least ∙ e)
        apart (inr (inr h)) (inr among) = let least : m ≡ min k m = omega arith in inr (inr (subst (λ n. Among n ns) least among))

-- ---- least costs of walks

-- the values are the least that walks to the target cost: no walk costs less than the value of the place where it begins, and
-- some walk from there costs no more, unless the value is that of no path
pub record AreLeastCosts (hop : Hops) (t : ℕ) (value : ℕ → ℕ) : Type 0 where
  pub most : (v : ℕ) → value v ≤ no_path
  pub below : (v : ℕ) (ls : List ℕ) → goes hop t (v ∷ []) v ls ≡ true → value v ≤ cost_along hop v ls
  pub reached : (v : ℕ) → (value v ≡ no_path) ⊎ Shorter hop t v (value v)

pub least_costs-zero : (hop : Hops) (t : ℕ) (value : ℕ → ℕ) → AreLeastCosts hop t value → value t ≡ 0
least_costs-zero hop t value least = let low : value t ≤ 0 = least.below t [] (eq-eqb t t refl) in omega arith

-- no hop improves a least cost
pub least_costs-hop : (hop : Hops) (t : ℕ) (value : ℕ → ℕ) → AreLeastCosts hop t value → (v l : ℕ) (h : ℕ × ℕ) → hop v l ≡ Some h → value v ≤ h.1 + value h.0
least_costs-hop hop t value least v l h is = apart (least.reached h.0) (cases_eq v h.0)
  where
    added : (y : ℕ) → is_among y (h.0 ∷ v ∷ []) ≡ true → (v ≡ y) ⊎ (is_among y (h.0 ∷ []) ≡ true)
    added y e = one (h.0 == y) (v == y) e (eqb-true v y)
      where
        one : (a b : Bool) → (a || (b || false)) ≡ true → (b ≡ true → v ≡ y) → (v ≡ y) ⊎ ((a || false) ≡ true)
        one true b e k = inr refl
        one false true e k = inl (k refl)
        one false false e k = absurd (false≢true e)

    over : (s : Shorter hop t h.0 (value h.0)) → (v ≡ h.0 → ⊥) → (goes hop t (h.0 ∷ v ∷ []) h.0 s.0 ≡ true) ⊎ Shorter hop t v (cost_along hop h.0 s.0) → value v ≤ h.1 + value h.0
    over s ne (inl g) =
        let low : value v ≤ cost_along hop v (l ∷ s.0) = least.below v (l ∷ s.0) (goes_more hop t (v ∷ []) v l s.0 h is (or_from (v == h.0) false (ne_eqb v h.0 ne) refl) g) in
        let price : cost_along hop v (l ∷ s.0) ≡ h.1 + cost_along hop h.0 s.0 = cost_along-more hop v l s.0 h is in
        omega (arith, low, price, s.2)
    over s ne (inr r) = let low : value v ≤ cost_along hop v r.0 = least.below v r.0 r.1 in omega (arith, low, r.2, s.2)

    apart : (value h.0 ≡ no_path) ⊎ Shorter hop t h.0 (value h.0) → (v ≡ h.0) ⊎ (v ≡ h.0 → ⊥) → value v ≤ h.1 + value h.0
    apart _ (inl e) = let same : value v ≡ value h.0 = ap value e in omega arith
    apart (inl e) (inr ne) = let most : value v ≤ no_path = least.most v in omega arith
    apart (inr s) (inr ne) = over s ne (around hop t v s.0 h.0 (h.0 ∷ []) (h.0 ∷ v ∷ []) added s.1)

-- a walk that costs the value of the place where it begins is a chain of tight hops
pub least_costs-tight : (hop : Hops) (t : ℕ) (value : ℕ → ℕ) → AreLeastCosts hop t value → (ls seen : List ℕ) (v : ℕ)
    → goes hop t seen v ls ≡ true → cost_along hop v ls ≡ value v → value v < no_path → is_tight hop value t v ls ≡ true
least_costs-tight hop t value least [] seen v g cost few = g
least_costs-tight hop t value least (l ∷ ls) seen v g cost few = by_goes hop t seen v l ls g (λ h is new rest.
    let own : value h.0 ≤ cost_along hop h.0 ls = least.below h.0 ls (goes_alone hop t ls h.0 seen rest) in
    let step : value v ≤ h.1 + value h.0 = least_costs-hop hop t value least v l h is in
    let price : cost_along hop v (l ∷ ls) ≡ h.1 + cost_along hop h.0 ls = cost_along-more hop v l ls h is in
    let tail : cost_along hop h.0 ls ≡ value h.0 = omega (arith, own, step, price, cost) in
    let falls : value v ≡ h.1 + value h.0 = omega (arith, tail, price, cost) in
    let less : value h.0 < no_path = omega (arith, falls, few) in
    ap (λ o. option_map_or (λ (h : ℕ × ℕ). (value v == h.1 + value h.0) && (nat_lt (value v) no_path && is_tight hop value t h.0 ls)) o false) is
    ∙ and_from (value v == h.1 + value h.0) (nat_lt (value v) no_path && is_tight hop value t h.0 ls) (eq-eqb (value v) (h.1 + value h.0) falls)
    (and_from (nat_lt (value v) no_path) (is_tight hop value t h.0 ls) (lt-ltb (value v) no_path few)
    (least_costs-tight hop t value least ls (h.0 ∷ seen) h.0 rest tail less)))

-- ---- least costs of paths

-- a path costs no less than the least cost
pub least_cost-le : (w : Network) (v t : ℕ) (ls : List ℕ) → is_path w v ls t ≡ true → least_cost w t v ≤ path_cost w v ls t
least_cost-le w v t ls path =
    least_number-le (map (λ links. path_cost w v links t) (paths w v t)) (path_cost w v ls t)
    (Among-map (λ links. path_cost w v links t) (paths w v t) ls ((paths-is_path w v t ls).1 path))

-- a path costs the least cost, unless that is the one of no path
pub least_cost-path : (w : Network) (v t : ℕ) → (least_cost w t v ≡ no_path) ⊎ ((ls : List ℕ) × (is_path w v ls t ≡ true) × (path_cost w v ls t ≡ least_cost w t v))
least_cost-path w v t = apart (least_number-among (map (λ links. path_cost w v links t) (paths w v t)))
  where
    apart : (least_cost w t v ≡ no_path) ⊎ Among (least_cost w t v) (map (λ links. path_cost w v links t) (paths w v t))
        → (least_cost w t v ≡ no_path) ⊎ ((ls : List ℕ) × (is_path w v ls t ≡ true) × (path_cost w v ls t ≡ least_cost w t v))
    apart (inl e) = inl e
    apart (inr m) = by_map (λ links. path_cost w v links t) (paths w v t) (least_cost w t v) m (λ ls listed cost. inr (ls, (paths-is_path w v t ls).0 listed, cost))

-- a router that is not connected has no path
pub least_cost-off : (w : Network) (v t : ℕ) → is_on w v ≡ false → least_cost w t v ≡ no_path
least_cost-off w v t off =
    ap (λ b. least_number (map (λ links. path_cost w v links t) (cond (b && is_on w t) (walks (hops w t) (numbers w.links) t (length w.routers) (v ∷ []) v) []))) off

pub least_cost-least : (w : Network) (t : ℕ) → is_on w t ≡ true → AreLeastCosts (hops w t) t (least_cost w t)
least_cost-least w t on = record { most = λ v. least_number-most (map (λ links. path_cost w v links t) (paths w v t)); below = below; reached = λ v. reached v (least_cost-path w v t) }
  where
    below : (v : ℕ) (ls : List ℕ) → goes (hops w t) t (v ∷ []) v ls ≡ true → least_cost w t v ≤ cost_along (hops w t) v ls
    below v ls g = least_cost-le w v t ls (and_from (is_on w v && is_on w t) (goes (hops w t) t (v ∷ []) v ls) (and_from (is_on w v) (is_on w t) (is_on-start w t ls (v ∷ []) v on g) on) g)

    reached : (v : ℕ) → (least_cost w t v ≡ no_path) ⊎ ((ls : List ℕ) × (is_path w v ls t ≡ true) × (path_cost w v ls t ≡ least_cost w t v))
        → (least_cost w t v ≡ no_path) ⊎ Shorter (hops w t) t v (least_cost w t v)
    reached v (inl e) = inl e
    reached v (inr p) = inr (p.0, (and_parts (is_on w v && is_on w t) (goes (hops w t) t (v ∷ []) v p.0) p.1).1, le_of_eq p.2)
