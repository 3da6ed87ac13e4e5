-- Laws on the least costs to a router, which a graph by places tells of a network by numbers.
use Rattle.std.proofs.Common.{◌≡◌, ℕ, zero, suc, ◌+◌, ◌<◌, ◌≤◌, ◌==◌, ◌&&◌, nat_le, Bool, true, false, cond, ◌⊎◌, inl, inr, List, [], ◌∷◌, map, filter, length, drop, get_or, refl, sym, ◌∙◌, ap, subst, arith, eqb-true, add-one}
use Rattle.std.proofs.Math.Seq.{drop-cons}
use Rattle.std.proofs.lemmas.Bool.{and_parts, and_from, cases_lt}
use Rattle.std.proofs.lemmas.List.{same_lists, length-map, get_or-map}
use Rattle.std.specs.Option.{option_map_or}
use Rattle.ctrl_model.specs.declared.kinds.RouterSeen.{RouterSeen}
use Rattle.ctrl_model.specs.declared.numbering.RouterNo.{RouterNo}
use Rattle.ctrl_model.specs.declared.claims.Reach.{Reach}
use Rattle.ctrl_model.specs.Walks.{goes}
use Rattle.ctrl_model.specs.Networks.{Network, is_on, may_host, hops, is_path, path_cost, admissible}
use Rattle.ctrl_model.specs.State.{Terminator}
use Rattle.ctrl_model.specs.Choices.{place_of}
use Rattle.ctrl_model.specs.Claims.{no_path, least_cost, router_numbers, reach_of}
use Rattle.ctrl_model.proofs.Members.{by_list_any}
use Rattle.model_laws.proofs.PlainPathLaws.{is_on-start}
use Rattle.model_laws.proofs.CandidateLaws.{by_admissible}
use Rattle.model_laws.proofs.LeastCostLaws.{least_number-most, least_cost-le, least_cost-path}
use Rattle.path_certificate.specs.Graphs.{GraphSeen, potential, IsPath, cost_of}
use Rattle.path_search.specs.Searches.{IsLeast, IsLeastAt}
use Rattle.fabric_graph.specs.Routers.{number_at, IsGraphOf}
use Rattle.circuit_rules.specs.Offers.{offer_of}
use Rattle.circuit_rules.specs.Reached.{AreOn}
use Rattle.circuit_rules.proofs.GraphLaws.{same_walk, same_price}
use Rattle.circuit_rules.proofs.PartLaws.{carried}

-- ---- paths

-- the least cost to a place in the graph is the least cost to its router
least_of_place : (w : Network) (g : GraphSeen) (t v : ℕ) (p : List ℕ) → IsGraphOf w g → t < length w.routers → v < length w.routers → is_on w (number_at w.routers t) ≡ true
    → IsLeastAt g t p v → potential p v ≡ least_cost w (number_at w.routers t) (number_at w.routers v)
least_of_place w g t v p k below start on least = both (potential p v) (least_cost w m n) (no_more (least_cost-path w n m)) (no_less (cases_lt (potential p v) no_path))
  where
    m : ℕ
    m = number_at w.routers t

    n : ℕ
    n = number_at w.routers v

    both : (a b : ℕ) → a ≤ b → b ≤ a → a ≡ b
    both a b x y = omega arith

    no_more : (least_cost w m n ≡ no_path) ⊎ ((ls : List ℕ) × (is_path w n ls m ≡ true) × (path_cost w n ls m ≡ least_cost w m n)) → potential p v ≤ least_cost w m n
    no_more (inl e) = subst (λ x. potential p v ≤ x) (sym e) least.within
    no_more (inr l) =
        subst (λ x. potential p v ≤ x) (sym (same_price w g t v k below start l.0) ∙ l.2)
        (least.below l.0 (sym (same_walk w g t v k below start l.0) ∙ (and_parts (is_on w n && is_on w m) (goes (hops w m) m (n ∷ []) n l.0) l.1).1))

    no_less : (potential p v < no_path) ⊎ (no_path ≤ potential p v) → least_cost w m n ≤ potential p v
    no_less (inl less) = with_path (least.some less)
      where
        with_path : (links : List ℕ) × IsPath g t v links × (cost_of g t v links ≡ potential p v) → least_cost w m n ≤ potential p v
        with_path l =
            let walk : goes (hops w m) m (n ∷ []) n l.0 ≡ true = same_walk w g t v k below start l.0 ∙ l.1 in
            subst (λ x. least_cost w m n ≤ x) (same_price w g t v k below start l.0 ∙ l.2)
            (least_cost-le w n m l.0 (and_from (is_on w n && is_on w m) (goes (hops w m) m (n ∷ []) n l.0) (and_from (is_on w n) (is_on w m) (is_on-start w m l.0 (n ∷ []) n on walk) on) walk))
    no_less (inr most) = under (least_cost w m n) (potential p v) (least_number-most _) most
      where
        under : (a b : ℕ) → a ≤ no_path → no_path ≤ b → a ≤ b
        under a b x y = omega arith

-- the values that a graph tells are the least costs
pub values-reach : (w : Network) (g : GraphSeen) (t : ℕ) (p : List ℕ) → IsGraphOf w g → t < length w.routers → is_on w (number_at w.routers t) ≡ true → IsLeast g t p
    → p ≡ (reach_of w (number_at w.routers t)).values
values-reach w g t p k below on least =
    same_lists p (map (least_cost w (number_at w.routers t)) (router_numbers w)) full
    (λ v d within.
    let places : v < length (router_numbers w) = subst (λ n. v < n) full_routers within in
    let start : v < length w.routers = subst (λ n. v < n) (length-map w.routers (λ (r : RouterSeen). r.no.0)) places in
    default p v d within
    ∙ least_of_place w g t v p k below start on (least.each v (subst (λ n. v < n) (sym k.places) start))
    ∙ sym (get_or-map (least_cost w (number_at w.routers t)) (router_numbers w) v 0 d places))
  where
    full_routers : length p ≡ length (router_numbers w)
    full_routers = least.places ∙ k.places ∙ sym (length-map w.routers (λ (r : RouterSeen). r.no.0))

    full : length p ≡ length (map (least_cost w (number_at w.routers t)) (router_numbers w))
    full = full_routers ∙ sym (length-map (router_numbers w) (least_cost w (number_at w.routers t)))

    default : (xs : List ℕ) (i d : ℕ) → i < length xs → get_or xs i d ≡ get_or xs i 0
    default [] i d h = absurd (omega arith)
    default (x ∷ xs) zero d h = refl
    default (x ∷ xs) (suc i) d h = default xs i d (omega arith)

-- ---- routers

-- a router that carries an admissible terminator is present and connected
pub carrying_on : (w : Network) (s : ℕ) (instance : List ℕ) (most : ℕ) → AreOn w (map (offer_of w) (admissible w s instance)) most
carrying_on w s instance most r is =
    by_list_any (λ (e : ℕ × Terminator). (e.1.router == r) && nat_le (place_of e.1.precedence) most) (admissible w s instance) (sym (carried w (admissible w s instance) most r) ∙ is)
    (λ e m passes.
    subst (λ x. is_on w x ≡ true) (eqb-true e.1.router r (and_parts (e.1.router == r) (nat_le (place_of e.1.precedence) most) passes).0)
    (and_parts (is_on w e.1.router) (option_map_or (may_host w e.1) e.1.host true) (by_admissible w s instance e m).serves).0)

-- the number of the router at a place
pub number_there : (routers : List RouterSeen) (i : ℕ) (d : RouterSeen) → i < length routers → (get_or routers i d).no.0 ≡ number_at routers i
number_there routers i d h = sym (get_or-map (λ (r : RouterSeen). r.no.0) routers i d 0 h)

-- an entry of a router and values is the one of its least costs, if these are such
pub reach_from : (w : Network) (t : ℕ) (r : RouterNo) (p : List ℕ) → r.0 ≡ t → p ≡ (reach_of w t).values → ◌≡◌ {A = Reach} (record { router = r; values = p }) (reach_of w t)
reach_from w t r p a b i = record { router = record { 0 = a i }; values = b i }

-- a router that carries nothing is passed over
pub passed_over : (p : ℕ → Bool) (routers : List RouterSeen) (i : ℕ) (d : RouterSeen) → i < length routers → p (get_or routers i d).no.0 ≡ false
    → filter p (drop i (map (λ (r : RouterSeen). r.no.0) routers)) ≡ filter p (drop (i + 1) (map (λ (r : RouterSeen). r.no.0) routers))
passed_over p routers i d h e =
    ap (filter p) (drop-cons ns i 0 (subst (λ n. i < n) (sym (length-map routers (λ (r : RouterSeen). r.no.0))) h) ∙ ap (λ k. number_at routers i ∷ drop k ns) (sym (add-one i)))
    ∙ ap (λ b. cond b (number_at routers i ∷ filter p (drop (i + 1) ns)) (filter p (drop (i + 1) ns))) (ap p (sym (number_there routers i d h)) ∙ e)
  where
    ns : List ℕ
    ns = map (λ (r : RouterSeen). r.no.0) routers
