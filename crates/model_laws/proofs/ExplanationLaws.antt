-- Laws on explanations: what their look-ups give, and that the explanation of the best candidate is justified.
use Rattle.std.proofs.Common.{◌≡◌, ℕ, zero, suc, ◌+◌, ◌<◌, ◌≤◌, min, ◌==◌, ◌||◌, ◌&&◌, nat_lt, nat_le, Bool, true, false, cond, ◌⊎◌, inl, inr, ⊎_elim, List, [], ◌∷◌, length, map, Option, Some, None, refl, sym, ◌∙◌, ap, subst, subst₂, arith, eqb-true, eq-eqb, ne_eqb, lt-ltb, bytes_eq, le_of_eq}
use Rattle.std.proofs.lemmas.Bool.{false_from_ne_true, and_parts, and_from, or_left, or_right, cases_order, cases_eq, cond-true, cond-false, le-ltb, le-leb, false≢true}
use Rattle.std.proofs.lemmas.Option.{same_Some}
use Rattle.std.proofs.lemmas.List.{length-map}
use Rattle.std.proofs.lemmas.Slice.Eq.{bytes_eq-Decides}
use Rattle.std.specs.Option.{option_map_or}
use Rattle.std.specs.List.{list_all, list_any}
use Rattle.ctrl_model.specs.declared.kinds.Kind.TheVariants as kind
use Rattle.ctrl_model.specs.declared.kinds.RouterSeen.{RouterSeen}
use Rattle.ctrl_model.specs.declared.claims.Explanation.{Explanation}
use Rattle.ctrl_model.specs.declared.claims.Reach.{Reach}
use Rattle.ctrl_model.specs.Membership.{Among}
use Rattle.ctrl_model.specs.Numbered.{at, numbers}
use Rattle.ctrl_model.specs.Walks.{goes}
use Rattle.ctrl_model.specs.State.{State, Terminator}
use Rattle.ctrl_model.specs.Networks.{Network, network_of, is_on, may_host, hops, is_path, path_cost, admissible}
use Rattle.ctrl_model.specs.Choices.{Ask, Candidate, IsIngress, IsAdmissible, IsCandidate, IsBest, IsGranted, place_of, terminator_cost, ingresses, candidate, precedes, best, first_rule}
use Rattle.ctrl_model.specs.PlainPaths.{NoneTwice}
use Rattle.ctrl_model.specs.Claims.{no_path, least_cost, router_numbers, reach_of, carries, explained_routers, explanation_of, value_at, does_not_improve, is_settled, is_tight, entry_for, claimed, is_no_better, is_entitled, is_complete, is_route, justified}
use Rattle.model_laws.specs.ClaimedRoutes.{has_small_costs}
use Rattle.ctrl_model.specs.ValidState.{ValidState}
use Rattle.ctrl_model.proofs.Members.{by_map, by_filter, list_all-from_among, list_any-from_among, by_list_any}
use Rattle.model_laws.proofs.PathLaws.{is_on-among}
use Rattle.model_laws.proofs.BestLaws.{not_precedes-precedence, not_precedes-total}
use Rattle.model_laws.proofs.CandidateLaws.{by_ingresses, Among-ingresses, by_admissible, Among-admissible, best-is}
use Rattle.model_laws.proofs.RuleLaws.{first_rule-none}
use Rattle.model_laws.proofs.NumberLaws.{at-unique, Between-none_twice}
use Rattle.model_laws.proofs.CostLaws.{path_cost-lt, valid-small_costs}
use Rattle.model_laws.proofs.LeastCostLaws.{AreLeastCosts, least_costs-zero, least_costs-hop, least_costs-tight, least_cost-le, least_cost-path, least_cost-off, least_cost-least}
use Rattle.model_laws.proofs.ClaimLaws.{IsJustified, justified-from, explained-among}

-- ---- look-ups

-- of values that are made from routers, the one at a router is made from that router, where that of an absent router is no path
value_at-map : (value : ℕ → ℕ) (ns : List ℕ) (r : ℕ) → ((Among r ns → ⊥) → value r ≡ no_path) → value_at ns (map value ns) r ≡ value r
value_at-map value [] r off = sym (off (λ m. m))
value_at-map value (n ∷ ns) r off = apart (cases_eq n r) (value_at-map value ns r)
  where
    apart : (n ≡ r) ⊎ (n ≡ r → ⊥) → (((Among r ns → ⊥) → value r ≡ no_path) → value_at ns (map value ns) r ≡ value r)
        → cond (n == r) (value n) (value_at ns (map value ns) r) ≡ value r
    apart (inl e) later = cond-true (n == r) (value n) (value_at ns (map value ns) r) (eq-eqb n r e) ∙ ap value e
    apart (inr ne) later = cond-false (n == r) (value n) (value_at ns (map value ns) r) (ne_eqb n r ne) ∙ later (λ none. off (λ m. ⊎_elim ne none m))

-- of entries that are made from routers, the one for a router is made from that router
entry_for-map : (w : Network) (ts : List ℕ) (t : ℕ) → Among t ts → entry_for (map (reach_of w) ts) t ≡ Some (reach_of w t)
entry_for-map w [] t m = absurd m
entry_for-map w (x ∷ ts) t m = apart (cases_eq x t) m (entry_for-map w ts t)
  where
    apart : (x ≡ t) ⊎ (x ≡ t → ⊥) → (x ≡ t) ⊎ Among t ts → (Among t ts → entry_for (map (reach_of w) ts) t ≡ Some (reach_of w t))
        → cond (x == t) (Some (reach_of w x)) (entry_for (map (reach_of w) ts) t) ≡ Some (reach_of w t)
    apart (inl e) _ later = cond-true (x == t) (Some (reach_of w x)) (entry_for (map (reach_of w) ts) t) (eq-eqb x t e) ∙ ap (λ n. Some (reach_of w n)) e
    apart (inr ne) (inl e) later = absurd (ne e)
    apart (inr ne) (inr m) later = cond-false (x == t) (Some (reach_of w x)) (entry_for (map (reach_of w) ts) t) (ne_eqb x t ne) ∙ later m

-- the values of an explanation's entry are the least costs
values-explained : (w : Network) (t v : ℕ) → value_at (router_numbers w) (map (least_cost w t) (router_numbers w)) v ≡ least_cost w t v
values-explained w t v =
    value_at-map (least_cost w t) (router_numbers w) v (λ none. least_cost-off w v t (false_from_ne_true (is_on w v) (λ on. none (is_on-among w v on))))

-- so are those that an explanation gives on the way to a router that it has an entry for
claimed-explained : (w : Network) (ts : List ℕ) (t v : ℕ) → Among t ts → claimed w (map (reach_of w) ts) t v ≡ least_cost w t v
claimed-explained w ts t v m =
    ap (λ o. option_map_or (λ (e : Reach). value_at (router_numbers w) e.values v) o no_path) (entry_for-map w ts t m) ∙ values-explained w t v

-- an explanation has entries for just the routers that it is made from
routers-explained : (w : Network) (ts : List ℕ) → map (λ (e : Reach). e.router.0) (map (reach_of w) ts) ≡ ts
routers-explained w [] = refl
routers-explained w (t ∷ ts) = ap (λ ns. t ∷ ns) (routers-explained w ts)

-- a router that an explanation has an entry for is present and connected
explained-is_on : (w : Network) (ask : Ask) (s place t : ℕ) → Among t (explained_routers w ask s place) → is_on w t ≡ true
explained-is_on w ask s place t m =
    by_filter (carries (admissible w s ask.instance) place) (router_numbers w) t m (λ _ carried.
    by_list_any (λ (e : ℕ × Terminator). (e.1.router == t) && nat_le (place_of e.1.precedence) place) (admissible w s ask.instance) carried (λ e among test.
    subst (λ x. is_on w x ≡ true) (eqb-true e.1.router t (and_parts (e.1.router == t) (nat_le (place_of e.1.precedence) place) test).0)
    (and_parts (is_on w e.1.router) (option_map_or (may_host w e.1) e.1.host true) (by_admissible w s ask.instance e among).serves).0))

-- ---- entries

-- a hop that does not lead below a value does not improve it
not_improved : (value : ℕ → ℕ) (v : ℕ) (o : Option (ℕ × ℕ)) → value v ≤ no_path → ((h : ℕ × ℕ) → o ≡ Some h → value v ≤ h.1 + value h.0) → does_not_improve value v o ≡ true
not_improved value v None most least = refl
not_improved value v (Some h) most least = below (value v) (h.1 + value h.0) no_path (least h refl) most
  where
    below : (a b c : ℕ) → a ≤ b → a ≤ c → nat_le a (min b c) ≡ true
    below a b c p q = le-leb a (min b c) (omega arith)

-- no hop on the way to a router improves a value
abbrev none_improves : Network → ℕ → (ℕ → ℕ) → Bool
none_improves w t value = list_all (λ v. list_all (λ l. does_not_improve value v (hops w t v l)) (numbers w.links)) (router_numbers w)

-- the values of the entry for a router
abbrev values_to : Network → ℕ → List ℕ
values_to w t = map (least_cost w t) (router_numbers w)

-- the entry for a router that is connected is settled
reach_of-settled : (w : Network) (t : ℕ) → is_on w t ≡ true → is_settled w (reach_of w t) ≡ true
reach_of-settled w t on =
    and_from (length (values_to w t) == length w.routers) ((value_at (router_numbers w) (values_to w t) t == 0) && none_improves w t (value_at (router_numbers w) (values_to w t)))
    (eq-eqb (length (values_to w t)) (length w.routers) (length-map (router_numbers w) (least_cost w t) ∙ length-map w.routers (λ (r : RouterSeen). r.no.0)))
    (and_from (value_at (router_numbers w) (values_to w t) t == 0) (none_improves w t (value_at (router_numbers w) (values_to w t)))
    (eq-eqb (value_at (router_numbers w) (values_to w t) t) 0 (values-explained w t t ∙ least_costs-zero (hops w t) t (least_cost w t) least))
    (subst (λ (value : ℕ → ℕ). none_improves w t value ≡ true) (sym same) settled))
  where
    same : ◌≡◌ {A = ℕ → ℕ} (value_at (router_numbers w) (values_to w t)) (least_cost w t)
    same = λ j. λ v. values-explained w t v j

    least : AreLeastCosts (hops w t) t (least_cost w t)
    least = least_cost-least w t on

    settled : none_improves w t (least_cost w t) ≡ true
    settled =
        list_all-from_among (λ v. list_all (λ l. does_not_improve (least_cost w t) v (hops w t v l)) (numbers w.links)) (router_numbers w) (λ v _.
        list_all-from_among (λ l. does_not_improve (least_cost w t) v (hops w t v l)) (numbers w.links) (λ l _.
        not_improved (least_cost w t) v (hops w t v l) (least.most v) (least_costs-hop (hops w t) t (least_cost w t) least v l)))

-- ---- the route

-- where no candidate from one ingress to one terminator has a lower total, the path costs the least cost
least_route : (w : Network) (r t own : ℕ) (links : List ℕ) → has_small_costs w ≡ true → is_path w r links t ≡ true
    → ((other : List ℕ) → is_path w r other t ≡ true → own + path_cost w r links t ≤ own + path_cost w r other t) → path_cost w r links t ≡ least_cost w t r
least_route w r t own links small path least = apart (least_cost-path w r t)
  where
    low : least_cost w t r ≤ path_cost w r links t
    low = least_cost-le w r t links path

    few : path_cost w r links t < no_path
    few = path_cost-lt w r t links small path

    between : (own cost other value : ℕ) → value ≤ cost → own + cost ≤ own + other → other ≡ value → cost ≡ value
    between own cost other value p q s = omega arith

    apart : (least_cost w t r ≡ no_path) ⊎ ((ls : List ℕ) × (is_path w r ls t ≡ true) × (path_cost w r ls t ≡ least_cost w t r)) → path_cost w r links t ≡ least_cost w t r
    apart (inl e) = absurd (omega (arith, low, few))
    apart (inr p) = between own (path_cost w r links t) (path_cost w r p.0 t) (least_cost w t r) low (least p.0 p.1) p.2

-- the route is one of tight hops in the explanation's entry, and costs what the entry says
route-explained : (w : Network) (ts : List ℕ) (r t : ℕ) (links : List ℕ) → has_small_costs w ≡ true → Among t ts → is_on w t ≡ true → is_path w r links t ≡ true
    → path_cost w r links t ≡ least_cost w t r
    → (is_tight (hops w t) (claimed w (map (reach_of w) ts) t) t r links ≡ true) × (path_cost w r links t ≡ claimed w (map (reach_of w) ts) t r)
route-explained w ts r t links small m on path cost = (
  subst (λ (value : ℕ → ℕ). is_tight (hops w t) value t r links ≡ true) (sym same)
      (least_costs-tight (hops w t) t (least_cost w t) (least_cost-least w t on) links (r ∷ []) r
      (and_parts (is_on w r && is_on w t) (goes (hops w t) t (r ∷ []) r links) path).1 cost (subst (λ n. n < no_path) cost (path_cost-lt w r t links small path))),
  cost ∙ sym (claimed-explained w ts t r m),
)
  where
    same : ◌≡◌ {A = ℕ → ℕ} (claimed w (map (reach_of w) ts) t) (least_cost w t)
    same = λ j. λ v. claimed-explained w ts t v m j

-- ---- the explanation of the best candidate

-- the test of one ingress and one terminator, by what has to hold of their value
no_better-test : (none p place value total own : ℕ) → (p < place → value ≡ none) → (p ≡ place → (value ≡ none) ⊎ (total ≤ own + value))
    → cond (nat_lt p place) (value == none) (cond (p == place) ((value == none) || nat_le total (own + value)) true) ≡ true
no_better-test none p place value total own before same = apart (cases_order p place)
  where
    later : place ≤ p → cond (p == place) ((value == none) || nat_le total (own + value)) true ≡ true
        → cond (nat_lt p place) (value == none) (cond (p == place) ((value == none) || nat_le total (own + value)) true) ≡ true
    later h e = cond-false (nat_lt p place) (value == none) (cond (p == place) ((value == none) || nat_le total (own + value)) true) (le-ltb p place h) ∙ e

    level : (value ≡ none) ⊎ (total ≤ own + value) → ((value == none) || nat_le total (own + value)) ≡ true
    level (inl e) = or_left (value == none) (nat_le total (own + value)) (eq-eqb value none e)
    level (inr h) = or_right (value == none) (nat_le total (own + value)) (le-leb total (own + value) h)

    apart : (p ≡ place) ⊎ ((p < place) ⊎ (place < p)) → cond (nat_lt p place) (value == none) (cond (p == place) ((value == none) || nat_le total (own + value)) true) ≡ true
    apart (inl s) = later (omega arith) (cond-true (p == place) ((value == none) || nat_le total (own + value)) true (eq-eqb p place s) ∙ level (same s))
    apart (inr (inl lt)) =
        cond-true (nat_lt p place) (value == none) (cond (p == place) ((value == none) || nat_le total (own + value)) true) (lt-ltb p place lt) ∙ eq-eqb value none (before lt)
    apart (inr (inr gt)) =
        later (omega arith) (cond-false (p == place) ((value == none) || nat_le total (own + value)) true (ne_eqb p place (λ s. absurd (omega arith))))

-- what is not 0 is above 0
positive : (n : ℕ) → (n == 0) ≡ false → nat_lt 0 n ≡ true
positive zero e = absurd (false≢true (sym e))
positive (suc n) e = lt-ltb 0 (suc n) (omega arith)

-- an ingress, an admissible terminator and a path between them that make a candidate that none precedes
record IsChosen (w : Network) (ask : Ask) (i s : ℕ) (r : RouterSeen) (e : ℕ × Terminator) (links : List ℕ) : Type 0 where
  who : ask.identity ≡ Some i
  what : ask.service ≡ Some s
  dials : (w.dial i s == 0) ≡ false
  present : at w.terminators e.0 ≡ Some e.1
  enters : IsIngress w ask.ingress i s r
  ends : IsAdmissible w s ask.instance e
  path : is_path w r.no.0 links e.1.router ≡ true
  first : (d : Candidate) → IsCandidate w ask d → precedes d (candidate w r e links) ≡ false

-- the explanation of a candidate, by its parts
abbrev claim_of : Network → Ask → ℕ → RouterSeen → ℕ × Terminator → List ℕ → Explanation
claim_of w ask s r e links = explanation_of w ask s (candidate w r e links)

-- the routers that it has an entry for, and its entries
abbrev explained_for : Network → Ask → ℕ → ℕ × Terminator → List ℕ
explained_for w ask s e = explained_routers w ask s (place_of e.1.precedence)

abbrev entries_for : Network → Ask → ℕ → ℕ × Terminator → List Reach
entries_for w ask s e = map (reach_of w) (explained_for w ask s e)

-- the explanation of such a candidate is justified
chosen-justified : (w : Network) (ask : Ask) (i s : ℕ) (r : RouterSeen) (e : ℕ × Terminator) (links : List ℕ) → has_small_costs w ≡ true → IsChosen w ask i s r e links
    → IsJustified w ask (claim_of w ask s r e links)
chosen-justified w ask i s r e links small k = record {
  identity = i;
  service = s;
  named = e.1;
  who = k.who;
  what = k.what;
  present = k.present;
  entitled = entitled;
  complete = complete;
  settled = settled;
  routed = routed;
  unbeaten = unbeaten;
}
  where
    -- the candidate of another path
    other : (q : RouterSeen) (x : ℕ × Terminator) (ls : List ℕ) → IsIngress w ask.ingress i s q → IsAdmissible w s ask.instance x → is_path w q.no.0 ls x.1.router ≡ true
        → precedes (candidate w q x ls) (candidate w r e links) ≡ false
    other q x ls enters ends path = k.first (candidate w q x ls) (record {
      identity = i;
      service = s;
      router = q;
      terminator = x;
      who = k.who;
      what = k.what;
      enters = enters;
      ends = ends;
      path = path;
      told = refl;
    })

    entitled : is_entitled w ask (claim_of w ask s r e links) i s ≡ true
    entitled =
        and_from (nat_lt 0 (w.dial i s))
        (list_any (λ (q : RouterSeen). q.no.0 == r.no.0) (ingresses w ask.ingress i s) && list_any (λ (x : ℕ × Terminator). x.0 == e.0) (admissible w s ask.instance))
        (positive (w.dial i s) k.dials)
        (and_from (list_any (λ (q : RouterSeen). q.no.0 == r.no.0) (ingresses w ask.ingress i s)) (list_any (λ (x : ℕ × Terminator). x.0 == e.0) (admissible w s ask.instance))
        (list_any-from_among (λ (q : RouterSeen). q.no.0 == r.no.0) (ingresses w ask.ingress i s) r (Among-ingresses w ask.ingress i s r k.enters) (eq-eqb r.no.0 r.no.0 refl))
        (list_any-from_among (λ (x : ℕ × Terminator). x.0 == e.0) (admissible w s ask.instance) e (Among-admissible w s ask.instance e k.ends) (eq-eqb e.0 e.0 refl)))

    complete : is_complete w ask (claim_of w ask s r e links) s (place_of e.1.precedence) ≡ true
    complete =
        and_from (bytes_eq (router_numbers w) (router_numbers w)) (bytes_eq (map (λ (x : Reach). x.router.0) (entries_for w ask s e)) (explained_for w ask s e))
        ((bytes_eq-Decides (router_numbers w) (router_numbers w)).1 refl)
        ((bytes_eq-Decides (map (λ (x : Reach). x.router.0) (entries_for w ask s e)) (explained_for w ask s e)).1 (routers-explained w (explained_for w ask s e)))

    settled : list_all (is_settled w) (entries_for w ask s e) ≡ true
    settled = list_all-from_among (is_settled w) (entries_for w ask s e) (λ x m.
        by_map (reach_of w) (explained_for w ask s e) x m (λ t among is.
        subst (λ y. is_settled w y ≡ true) is (reach_of-settled w t (explained-is_on w ask s (place_of e.1.precedence) t among))))

    cost : path_cost w r.no.0 links e.1.router ≡ least_cost w e.1.router r.no.0
    cost = least_route w r.no.0 e.1.router (terminator_cost w e) links small k.path (λ ls path.
        not_precedes-total (candidate w r e ls) (candidate w r e links) refl (other r e ls k.enters k.ends path))

    is_explained : (x : ℕ × Terminator) → IsAdmissible w s ask.instance x → place_of x.1.precedence ≤ place_of e.1.precedence → Among x.1.router (explained_for w ask s e)
    is_explained x ends early = explained-among w ask s (place_of e.1.precedence) x ends early

    routed : is_route w (claim_of w ask s r e links) e ≡ true
    routed = from (route-explained w (explained_for w ask s e) r.no.0 e.1.router links small own (explained-is_on w ask s (place_of e.1.precedence) e.1.router own) k.path cost)
      where
        own : Among e.1.router (explained_for w ask s e)
        own = is_explained e k.ends (le_of_eq refl)

        from : (is_tight (hops w e.1.router) (claimed w (entries_for w ask s e) e.1.router) e.1.router r.no.0 links ≡ true)
            × (path_cost w r.no.0 links e.1.router ≡ claimed w (entries_for w ask s e) e.1.router r.no.0) → is_route w (claim_of w ask s r e links) e ≡ true
        from p =
            and_from (is_tight (hops w e.1.router) (claimed w (entries_for w ask s e) e.1.router) e.1.router r.no.0 links)
            (terminator_cost w e + path_cost w r.no.0 links e.1.router == terminator_cost w e + claimed w (entries_for w ask s e) e.1.router r.no.0) p.0
            (eq-eqb (terminator_cost w e + path_cost w r.no.0 links e.1.router) (terminator_cost w e + claimed w (entries_for w ask s e) e.1.router r.no.0)
            (ap (λ n. terminator_cost w e + n) p.1))

    unbeaten : list_all (λ (q : RouterSeen). list_all (is_no_better w (claim_of w ask s r e links) (place_of e.1.precedence) q.no.0) (admissible w s ask.instance)) (ingresses w ask.ingress i s) ≡ true
    unbeaten =
        list_all-from_among (λ (q : RouterSeen). list_all (is_no_better w (claim_of w ask s r e links) (place_of e.1.precedence) q.no.0) (admissible w s ask.instance)) (ingresses w ask.ingress i s) (λ q in_ingresses.
        list_all-from_among (is_no_better w (claim_of w ask s r e links) (place_of e.1.precedence) q.no.0) (admissible w s ask.instance) (λ x in_admissible.
        against q x (by_ingresses w ask.ingress i s q in_ingresses) (by_admissible w s ask.instance x in_admissible)))
      where
        against : (q : RouterSeen) (x : ℕ × Terminator) → IsIngress w ask.ingress i s q → IsAdmissible w s ask.instance x → is_no_better w (claim_of w ask s r e links) (place_of e.1.precedence) q.no.0 x ≡ true
        against q x enters ends =
            no_better-test no_path (place_of x.1.precedence) (place_of e.1.precedence) (claimed w (entries_for w ask s e) x.1.router q.no.0) (candidate w r e links).total (terminator_cost w x)
            (λ lt. before lt (least_cost-path w q.no.0 x.1.router)) (λ same. level same (least_cost-path w q.no.0 x.1.router))
          where
            value : place_of x.1.precedence ≤ place_of e.1.precedence → claimed w (entries_for w ask s e) x.1.router q.no.0 ≡ least_cost w x.1.router q.no.0
            value early = claimed-explained w (explained_for w ask s e) x.1.router q.no.0 (is_explained x ends early)

            before : place_of x.1.precedence < place_of e.1.precedence
                → (least_cost w x.1.router q.no.0 ≡ no_path) ⊎ ((ls : List ℕ) × (is_path w q.no.0 ls x.1.router ≡ true) × (path_cost w q.no.0 ls x.1.router ≡ least_cost w x.1.router q.no.0))
                → claimed w (entries_for w ask s e) x.1.router q.no.0 ≡ no_path
            before lt (inl none) = value (omega arith) ∙ none
            before lt (inr p) = absurd (not_both (place_of x.1.precedence) (place_of e.1.precedence) lt
                (not_precedes-precedence (candidate w q x p.0) (candidate w r e links) (other q x p.0 enters ends p.1)))
              where
                not_both : (a b : ℕ) → a < b → b ≤ a → ⊥
                not_both a b h j = absurd (omega arith)

            level : place_of x.1.precedence ≡ place_of e.1.precedence
                → (least_cost w x.1.router q.no.0 ≡ no_path) ⊎ ((ls : List ℕ) × (is_path w q.no.0 ls x.1.router ≡ true) × (path_cost w q.no.0 ls x.1.router ≡ least_cost w x.1.router q.no.0))
                → (claimed w (entries_for w ask s e) x.1.router q.no.0 ≡ no_path)
                ⊎ ((candidate w r e links).total ≤ terminator_cost w x + claimed w (entries_for w ask s e) x.1.router q.no.0)
            level same (inl none) = inl (value (le_of_eq same) ∙ none)
            level same (inr p) = inr (subst (λ n. (candidate w r e links).total ≤ terminator_cost w x + n) (p.2 ∙ sym (value (le_of_eq same)))
                (not_precedes-total (candidate w q x p.0) (candidate w r e links) same (other q x p.0 enters ends p.1)))

-- with small costs and terminators of different numbers, where no rule of a request fails, the explanation of its best candidate
-- is justified
pub best-justified : (w : Network) (ask : Ask) (service : ℕ) (c : Candidate) → has_small_costs w ≡ true → NoneTwice (numbers w.terminators) → first_rule w ask ≡ None
    → ask.service ≡ Some service → best w ask ≡ Some c → justified w ask (explanation_of w ask service c) ≡ true
best-justified w ask service c small apart none what is = with_parts ((first_rule-none w ask).0 none) ((best-is w ask c).0 is)
  where
    with_parts : IsGranted w ask → IsBest w ask c → justified w ask (explanation_of w ask service c) ≡ true
    with_parts g b = of b.is_candidate
      where
        of : IsCandidate w ask c → justified w ask (explanation_of w ask service c) ≡ true
        of k =
            subst (λ s. justified w ask (explanation_of w ask s c) ≡ true) (same_Some k.service service (sym k.what ∙ what))
            (subst (λ d. justified w ask (explanation_of w ask k.service d) ≡ true) k.told
            (justified-from w ask (explanation_of w ask k.service (candidate w k.router k.terminator c.links))
            (chosen-justified w ask k.identity k.service k.router k.terminator c.links small (record {
              who = k.who;
              what = k.what;
              dials = subst₂ (λ i s. (w.dial i s == 0) ≡ false) (same_Some g.identity k.identity (sym g.who ∙ k.who)) (same_Some g.service k.service (sym g.what ∙ k.what)) g.dials;
              present = at-unique w.terminators apart k.terminator k.ends.present;
              enters = k.enters;
              ends = k.ends;
              path = k.path;
              first = λ d m. subst (λ x. precedes d x ≡ false) (sym k.told) (b.first d m);
            }))))

-- ---- in a valid state

pub valid-justified : (s : State) (ask : Ask) (service : ℕ) (c : Candidate) → ValidState s → first_rule (network_of s) ask ≡ None → ask.service ≡ Some service
    → best (network_of s) ask ≡ Some c → justified (network_of s) ask (explanation_of (network_of s) ask service c) ≡ true
valid-justified s ask service c valid =
    best-justified (network_of s) ask service c (valid-small_costs s valid) (Between-none_twice 1 s.terminators.next s.terminators.rows (valid.kinds kind.Terminator).numbers.ordered)
