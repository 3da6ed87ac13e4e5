-- Laws on claims: what a justified claim consists of, that settled values are at most what paths cost, that no candidate is
-- better than a justified claim, and that the claimed route is a candidate.
use Rattle.std.proofs.Common.{◌≡◌, ℕ, ◌+◌, ◌<◌, ◌≤◌, ◌==◌, ◌||◌, ◌&&◌, nat_lt, nat_le, true, false, cond, ◌⊎◌, inl, inr, List, [], ◌∷◌, length, map, Option, Some, refl, sym, ◌∙◌, ap, subst, subst₂, arith, eqb-true, eq-eqb, leb-true, bytes_eq, le_trans, le_refl, le_of_eq, ap₂}
use Rattle.std.proofs.lemmas.Bool.{and_parts, and_from, or_cases, cases_order, cases_eq, cond-true, cond-false, lt-ltb, le-ltb, ne_eqb, le-leb, false≢true}
use Rattle.std.proofs.lemmas.Option.{same_Some}
use Rattle.std.proofs.lemmas.Slice.Eq.{bytes_eq-Decides}
use Rattle.std.proofs.Math.Nat.{min-le_left}
use Rattle.std.specs.Option.{option_map_or}
use Rattle.std.specs.List.{list_all, list_any}
use Rattle.ctrl_model.specs.declared.kinds.Kind.TheVariants as kind
use Rattle.ctrl_model.specs.declared.kinds.RouterSeen.{RouterSeen}
use Rattle.ctrl_model.specs.declared.claims.Explanation.{Explanation}
use Rattle.ctrl_model.specs.declared.claims.Reach.{Reach}
use Rattle.ctrl_model.specs.Membership.{Among}
use Rattle.ctrl_model.specs.Numbered.{at, numbers}
use Rattle.ctrl_model.specs.State.{State, Terminator}
use Rattle.ctrl_model.specs.Walks.{Hops, is_among, goes, cost_along}
use Rattle.ctrl_model.specs.Networks.{Network, network_of, is_on, may_host, hops, is_path, path_cost, admissible}
use Rattle.ctrl_model.specs.Choices.{Ask, Candidate, IsIngress, IsAdmissible, IsCandidate, place_of, terminator_cost, ingresses}
use Rattle.ctrl_model.specs.PlainPaths.{NoneTwice}
use Rattle.ctrl_model.specs.Claims.{no_path, router_numbers, carries, explained_routers, value_at, reach_over, does_not_improve, is_settled, is_tight, entry_for, claimed, is_no_better, is_entitled, is_complete, is_route, justified_for, justified}
use Rattle.model_laws.specs.ClaimedRoutes.{has_small_costs, NoneIsBetter, claimed_candidate}
use Rattle.ctrl_model.specs.ValidState.{ValidState}
use Rattle.ctrl_model.proofs.Tests.{three_parts, five_parts, five_from}
use Rattle.model_laws.proofs.CostLaws.{path_cost-lt, hops_cost, valid-least, valid-small_costs}
use Rattle.model_laws.proofs.NumberLaws.{at-unique, Between-none_twice}
use Rattle.ctrl_model.proofs.Members.{Among-filter, list_all-among, list_any-from_among, by_list_any}
use Rattle.ctrl_model.proofs.TightLaws.{tight_goes, tight_cost}
use Rattle.ctrl_model.proofs.WalkLaws.{by_there, by_goes, cost_along-more, StaysAmong}
use Rattle.model_laws.proofs.PathLaws.{is_on-among, hops_stay, hops_named}
use Rattle.model_laws.proofs.PlainPathLaws.{is_on-start}
use Rattle.model_laws.proofs.CandidateLaws.{by_ingresses, Among-ingresses, by_admissible, Among-admissible}

-- ---- what a justified claim consists of

pub record IsJustified (w : Network) (ask : Ask) (claim : Explanation) : Type 0 where
  pub identity : ℕ
  pub service : ℕ
  pub named : Terminator
  pub who : ask.identity ≡ Some identity
  pub what : ask.service ≡ Some service
  pub present : at w.terminators claim.terminator.0 ≡ Some named
  pub entitled : is_entitled w ask claim identity service ≡ true
  pub complete : is_complete w ask claim service (place_of named.precedence) ≡ true
  pub settled : list_all (is_settled w) claim.potentials ≡ true
  pub routed : is_route w claim (claim.terminator.0, named) ≡ true
  pub unbeaten : list_all (λ (r : RouterSeen). list_all (is_no_better w claim (place_of named.precedence) r.no.0) (admissible w service ask.instance)) (ingresses w ask.ingress identity service) ≡ true

pub justified-parts : (w : Network) (ask : Ask) (claim : Explanation) → justified w ask claim ≡ true → IsJustified w ask claim
justified-parts w ask claim h =
    by_there (λ i. option_map_or (λ s. option_map_or (λ e. justified_for w ask claim i s (claim.terminator.0, e)) (at w.terminators claim.terminator.0) false) ask.service false) ask.identity h (λ i who h2.
    by_there (λ s. option_map_or (λ e. justified_for w ask claim i s (claim.terminator.0, e)) (at w.terminators claim.terminator.0) false) ask.service h2 (λ s what h3.
    by_there (λ e. justified_for w ask claim i s (claim.terminator.0, e)) (at w.terminators claim.terminator.0) h3 (λ e present h4.
    told i s e who what present
    (five_parts (is_entitled w ask claim i s) (is_complete w ask claim s (place_of e.precedence)) (list_all (is_settled w) claim.potentials) (is_route w claim (claim.terminator.0, e))
    (list_all (λ (r : RouterSeen). list_all (is_no_better w claim (place_of e.precedence) r.no.0) (admissible w s ask.instance)) (ingresses w ask.ingress i s)) h4))))
  where
    told : (i s : ℕ) (e : Terminator) → ask.identity ≡ Some i → ask.service ≡ Some s → at w.terminators claim.terminator.0 ≡ Some e
        → (is_entitled w ask claim i s ≡ true) × (is_complete w ask claim s (place_of e.precedence) ≡ true) × (list_all (is_settled w) claim.potentials ≡ true)
        × (is_route w claim (claim.terminator.0, e) ≡ true)
        × (list_all (λ (r : RouterSeen). list_all (is_no_better w claim (place_of e.precedence) r.no.0) (admissible w s ask.instance)) (ingresses w ask.ingress i s) ≡ true)
        → IsJustified w ask claim
    told i s e who what present p = record {
      identity = i;
      service = s;
      named = e;
      who = who;
      what = what;
      present = present;
      entitled = p.0;
      complete = p.1;
      settled = p.2;
      routed = p.3;
      unbeaten = p.4;
    }

pub justified-from : (w : Network) (ask : Ask) (claim : Explanation) → IsJustified w ask claim → justified w ask claim ≡ true
justified-from w ask claim j =
    ap (λ o. option_map_or (λ i. option_map_or (λ s. option_map_or (λ e. justified_for w ask claim i s (claim.terminator.0, e)) (at w.terminators claim.terminator.0) false) ask.service false) o false) j.who
    ∙ (ap (λ o. option_map_or (λ s. option_map_or (λ e. justified_for w ask claim j.identity s (claim.terminator.0, e)) (at w.terminators claim.terminator.0) false) o false) j.what
    ∙ (ap (λ o. option_map_or (λ e. justified_for w ask claim j.identity j.service (claim.terminator.0, e)) o false) j.present
    ∙ five_from (is_entitled w ask claim j.identity j.service) (is_complete w ask claim j.service (place_of j.named.precedence)) (list_all (is_settled w) claim.potentials)
    (is_route w claim (claim.terminator.0, j.named))
    (list_all (λ (r : RouterSeen). list_all (is_no_better w claim (place_of j.named.precedence) r.no.0) (admissible w j.service ask.instance)) (ingresses w ask.ingress j.identity j.service))
    j.entitled j.complete j.settled j.routed j.unbeaten))

-- ---- values that no hop improves

-- the target has the value 0, and no hop from one of the places improves a value
pub record Settles (hop : Hops) (t : ℕ) (places : List ℕ) (value : ℕ → ℕ) : Type 0 where
  pub zero : value t ≡ 0
  pub least : (v l : ℕ) (h : ℕ × ℕ) → Among v places → hop v l ≡ Some h → value v ≤ h.1 + value h.0

-- a value is at most what a walk from there costs
pub value-le_cost : (hop : Hops) (t : ℕ) (places : List ℕ) (value : ℕ → ℕ) → StaysAmong hop places → Settles hop t places value
    → (ls seen : List ℕ) (v : ℕ) → Among v places → goes hop t seen v ls ≡ true → value v ≤ cost_along hop v ls
value-le_cost hop t places value stays settles [] seen v place g = let e : value v ≡ 0 = ap value (eqb-true v t g) ∙ settles.zero in omega arith
value-le_cost hop t places value stays settles (l ∷ ls) seen v place g = by_goes hop t seen v l ls g (λ h is new rest.
    let more : value h.0 ≤ cost_along hop h.0 ls = value-le_cost hop t places value stays settles ls (h.0 ∷ seen) h.0 (stays v l h is) rest in
    let step : value v ≤ h.1 + value h.0 = settles.least v l h place is in
    let cost : cost_along hop v (l ∷ ls) ≡ h.1 + cost_along hop h.0 ls = cost_along-more hop v l ls h is in
    omega (arith, more, step, cost))

-- the values of a settled entry
abbrev pub values_of : Network → Reach → ℕ → ℕ
values_of w e = value_at (router_numbers w) e.values

pub settled-Settles : (w : Network) (e : Reach) → is_settled w e ≡ true → Settles (hops w e.router.0) e.router.0 (router_numbers w) (values_of w e)
settled-Settles w e h = record { zero = eqb-true (values_of w e e.router.0) 0 parts.1; least = least }
  where
    parts : ((length e.values == length w.routers) ≡ true) × ((values_of w e e.router.0 == 0) ≡ true)
        × (list_all (λ v. list_all (λ l. does_not_improve (values_of w e) v (hops w e.router.0 v l)) (numbers w.links)) (router_numbers w) ≡ true)
    parts = three_parts (length e.values == length w.routers) (values_of w e e.router.0 == 0)
        (list_all (λ v. list_all (λ l. does_not_improve (values_of w e) v (hops w e.router.0 v l)) (numbers w.links)) (router_numbers w)) h

    not_improved : (value : ℕ → ℕ) (v : ℕ) (h : ℕ × ℕ) → nat_le (value v) (reach_over h.1 (value h.0)) ≡ true → value v ≤ h.1 + value h.0
    not_improved value v h e = le_trans (leb-true (value v) (reach_over h.1 (value h.0)) e) (min-le_left (h.1 + value h.0) no_path)

    least : (v l : ℕ) (h : ℕ × ℕ) → Among v (router_numbers w) → hops w e.router.0 v l ≡ Some h → values_of w e v ≤ h.1 + values_of w e h.0
    least v l h place is =
        not_improved (values_of w e) v h (subst (λ o. does_not_improve (values_of w e) v o ≡ true) is
        (list_all-among (λ l. does_not_improve (values_of w e) v (hops w e.router.0 v l)) (numbers w.links) l
        (list_all-among (λ v. list_all (λ l. does_not_improve (values_of w e) v (hops w e.router.0 v l)) (numbers w.links)) (router_numbers w) v parts.2 place)
        (hops_named w e.router.0 v l h is)))

-- ---- the values of a claim

-- a router that a claim has an entry for
by_entry : {P : Type 0} (es : List Reach) (t : ℕ) → Among t (map (λ (e : Reach). e.router.0) es) → ((e : Reach) → entry_for es t ≡ Some e → Among e es → e.router.0 ≡ t → P) → P
by_entry [] t m k = absurd m
by_entry {P} (e ∷ es) t m k = apart (cases_eq e.router.0 t) m (λ n. by_entry es t n)
  where
    apart : (e.router.0 ≡ t) ⊎ (e.router.0 ≡ t → ⊥) → (e.router.0 ≡ t) ⊎ Among t (map (λ (e : Reach). e.router.0) es)
        → (Among t (map (λ (e : Reach). e.router.0) es) → ((x : Reach) → entry_for es t ≡ Some x → Among x es → x.router.0 ≡ t → P) → P) → P
    apart (inl s) _ later = k e (cond-true (e.router.0 == t) (Some e) (entry_for es t) (eq-eqb e.router.0 t s)) (inl refl) s
    apart (inr n) (inl s) later = absurd (n s)
    apart (inr n) (inr m) later =
        later m (λ x is among same. k x (cond-false (e.router.0 == t) (Some e) (entry_for es t) (ne_eqb e.router.0 t n) ∙ is) (inr among) same)

-- where each entry is settled, so are the values of a claim on the way to a router that it has an entry for
pub claimed-Settles : (w : Network) (es : List Reach) (t : ℕ) → list_all (is_settled w) es ≡ true → Among t (map (λ (e : Reach). e.router.0) es)
    → Settles (hops w t) t (router_numbers w) (claimed w es t)
claimed-Settles w es t all m =
    by_entry es t m (λ e is among same.
    subst (Settles (hops w t) t (router_numbers w)) (sym (ap {B = ℕ → ℕ} (λ (o : Option Reach) (v : ℕ). option_map_or (λ (e : Reach). value_at (router_numbers w) e.values v) o no_path) is))
    (subst (λ x. Settles (hops w x) x (router_numbers w) (values_of w e)) same (settled-Settles w e (list_all-among (is_settled w) es e all among))))

-- a terminator of the precedence in question, or of an earlier one, has an entry
pub explained-among : (w : Network) (ask : Ask) (s place : ℕ) (e : ℕ × Terminator) → IsAdmissible w s ask.instance e → place_of e.1.precedence ≤ place → Among e.1.router (explained_routers w ask s place)
explained-among w ask s place e a early =
    Among-filter (carries (admissible w s ask.instance) place) (router_numbers w) e.1.router
    (is_on-among w e.1.router (and_parts (is_on w e.1.router) (option_map_or (may_host w e.1) e.1.host true) a.serves).0)
    (list_any-from_among (λ (x : ℕ × Terminator). (x.1.router == e.1.router) && nat_le (place_of x.1.precedence) place) (admissible w s ask.instance) e
    (Among-admissible w s ask.instance e a)
    (and_from (e.1.router == e.1.router) (nat_le (place_of e.1.precedence) place) (eq-eqb e.1.router e.1.router refl) (le-leb (place_of e.1.precedence) place early)))

-- so the values of a justified claim on the way to such a terminator are settled
pub justified-Settles : (w : Network) (ask : Ask) (claim : Explanation) (j : IsJustified w ask claim) (e : ℕ × Terminator) → IsAdmissible w j.service ask.instance e
    → place_of e.1.precedence ≤ place_of j.named.precedence → Settles (hops w e.1.router) e.1.router (router_numbers w) (claimed w claim.potentials e.1.router)
justified-Settles w ask claim j e a early =
    claimed-Settles w claim.potentials e.1.router j.settled
    (subst (Among e.1.router) (sym same) (explained-among w ask j.service (place_of j.named.precedence) e a early))
  where
    same : map (λ (e : Reach). e.router.0) claim.potentials ≡ explained_routers w ask j.service (place_of j.named.precedence)
    same = (bytes_eq-Decides (map (λ (e : Reach). e.router.0) claim.potentials) (explained_routers w ask j.service (place_of j.named.precedence))).0
        (and_parts (bytes_eq claim.routers (router_numbers w)) (bytes_eq (map (λ (e : Reach). e.router.0) claim.potentials) (explained_routers w ask j.service (place_of j.named.precedence))) j.complete).1

-- ---- no candidate is better

-- what the test of one ingress and one terminator says, where the claimed value is at most the cost of a path
outcome : (none p place value cost total own : ℕ)
    → cond (nat_lt p place) (value == none) (cond (p == place) ((value == none) || nat_le total (own + value)) true) ≡ true
    → (p ≤ place → value ≤ cost) → cost < none → (place < p) ⊎ ((p ≡ place) × (total ≤ own + cost))
outcome none p place value cost total own h most small = apart (cases_order p place)
  where
    no_way : p ≤ place → (value == none) ≡ true → ⊥
    no_way early e = let same : value ≡ none = eqb-true value none e in let below : value ≤ cost = most early in omega arith

    either : p ≡ place → ((value == none) ≡ true) ⊎ (nat_le total (own + value) ≡ true) → (place < p) ⊎ ((p ≡ place) × (total ≤ own + cost))
    either s (inl e) = absurd (no_way (omega arith) e)
    either s (inr e) = let least : total ≤ own + value = leb-true total (own + value) e in let below : value ≤ cost = most (omega arith) in inr (s, omega arith)

    apart : (p ≡ place) ⊎ ((p < place) ⊎ (place < p)) → (place < p) ⊎ ((p ≡ place) × (total ≤ own + cost))
    apart (inl s) = either s (or_cases (value == none) (nat_le total (own + value))
        (sym (cond-true (p == place) ((value == none) || nat_le total (own + value)) true (eq-eqb p place s))
        ∙ (sym (cond-false (nat_lt p place) (value == none) (cond (p == place) ((value == none) || nat_le total (own + value)) true) (le-ltb p place (omega arith))) ∙ h)))
    apart (inr (inl lt)) =
        absurd (no_way (omega arith) (sym (cond-true (nat_lt p place) (value == none) (cond (p == place) ((value == none) || nat_le total (own + value)) true) (lt-ltb p place lt)) ∙ h))
    apart (inr (inr gt)) = inl gt

-- with small costs no candidate is better than a justified claim
pub justified-unbeaten : (w : Network) (ask : Ask) (claim : Explanation) (j : IsJustified w ask claim) → has_small_costs w ≡ true → (c : Candidate) → IsCandidate w ask c
    → (place_of j.named.precedence < c.precedence) ⊎ ((c.precedence ≡ place_of j.named.precedence) × (claim.total ≤ c.total))
justified-unbeaten w ask claim j small c k =
    subst (λ (d : Candidate). (place_of j.named.precedence < d.precedence) ⊎ ((d.precedence ≡ place_of j.named.precedence) × (claim.total ≤ d.total))) k.told against
  where
    enters : IsIngress w ask.ingress j.identity j.service k.router
    enters = subst₂ (λ i s. IsIngress w ask.ingress i s k.router) (same_Some k.identity j.identity (sym k.who ∙ j.who)) (same_Some k.service j.service (sym k.what ∙ j.what)) k.enters

    ends : IsAdmissible w j.service ask.instance k.terminator
    ends = subst (λ s. IsAdmissible w s ask.instance k.terminator) (same_Some k.service j.service (sym k.what ∙ j.what)) k.ends

    test : is_no_better w claim (place_of j.named.precedence) k.router.no.0 k.terminator ≡ true
    test =
        list_all-among (is_no_better w claim (place_of j.named.precedence) k.router.no.0) (admissible w j.service ask.instance) k.terminator
        (list_all-among (λ (r : RouterSeen). list_all (is_no_better w claim (place_of j.named.precedence) r.no.0) (admissible w j.service ask.instance))
        (ingresses w ask.ingress j.identity j.service) k.router j.unbeaten (Among-ingresses w ask.ingress j.identity j.service k.router enters))
        (Among-admissible w j.service ask.instance k.terminator ends)

    ways : ((is_on w k.router.no.0 && is_on w k.terminator.1.router) ≡ true) × (goes (hops w k.terminator.1.router) k.terminator.1.router (k.router.no.0 ∷ []) k.router.no.0 c.links ≡ true)
    ways = and_parts (is_on w k.router.no.0 && is_on w k.terminator.1.router) (goes (hops w k.terminator.1.router) k.terminator.1.router (k.router.no.0 ∷ []) k.router.no.0 c.links) k.path

    most : place_of k.terminator.1.precedence ≤ place_of j.named.precedence
        → claimed w claim.potentials k.terminator.1.router k.router.no.0 ≤ path_cost w k.router.no.0 c.links k.terminator.1.router
    most early =
        value-le_cost (hops w k.terminator.1.router) k.terminator.1.router (router_numbers w) (claimed w claim.potentials k.terminator.1.router) (hops_stay w k.terminator.1.router)
        (justified-Settles w ask claim j k.terminator ends early) c.links (k.router.no.0 ∷ []) k.router.no.0
        (is_on-among w k.router.no.0 (and_parts (is_on w k.router.no.0) (is_on w k.terminator.1.router) ways.0).0) ways.1

    against : (place_of j.named.precedence < place_of k.terminator.1.precedence)
        ⊎ ((place_of k.terminator.1.precedence ≡ place_of j.named.precedence) × (claim.total ≤ terminator_cost w k.terminator + path_cost w k.router.no.0 c.links k.terminator.1.router))
    against =
        outcome no_path (place_of k.terminator.1.precedence) (place_of j.named.precedence) (claimed w claim.potentials k.terminator.1.router k.router.no.0)
        (path_cost w k.router.no.0 c.links k.terminator.1.router) claim.total (terminator_cost w k.terminator) test most
        (path_cost-lt w k.router.no.0 k.terminator.1.router c.links small k.path)

-- the same for the terminator that the claim names
pub no_better_than : (w : Network) (ask : Ask) (claim : Explanation) (e : Terminator) → has_small_costs w ≡ true → at w.terminators claim.terminator.0 ≡ Some e → justified w ask claim ≡ true
    → NoneIsBetter w ask (place_of e.precedence) claim.total
no_better_than w ask claim e small named holds = by_parts (justified-parts w ask claim holds)
  where
    by_parts : IsJustified w ask claim → NoneIsBetter w ask (place_of e.precedence) claim.total
    by_parts j = subst (λ (x : Terminator). NoneIsBetter w ask (place_of x.precedence) claim.total) (same_Some j.named e (sym j.present ∙ named)) (justified-unbeaten w ask claim j small)

-- ---- the claimed route is a candidate

-- where entering a router costs something and terminators have different numbers, the route of a justified claim is a candidate
pub justified-candidate : (w : Network) (ask : Ask) (claim : Explanation) (j : IsJustified w ask claim) → 1 ≤ w.least → NoneTwice (numbers w.terminators)
    → IsCandidate w ask (claimed_candidate claim j.named)
justified-candidate w ask claim j costs apart =
    by_list_any (λ (r : RouterSeen). r.no.0 == claim.ingress.0) (ingresses w ask.ingress j.identity j.service) entitled.1 (λ r enters is_ingress.
    by_list_any (λ (e : ℕ × Terminator). e.0 == claim.terminator.0) (admissible w j.service ask.instance) entitled.2 (λ e ends is_named.
    with_parts r (by_ingresses w ask.ingress j.identity j.service r enters) (eqb-true r.no.0 claim.ingress.0 is_ingress)
    (is_same e (by_admissible w j.service ask.instance e ends) (eqb-true e.0 claim.terminator.0 is_named))))
  where
    entitled : (nat_lt 0 (w.dial j.identity j.service) ≡ true) × (list_any (λ (r : RouterSeen). r.no.0 == claim.ingress.0) (ingresses w ask.ingress j.identity j.service) ≡ true)
        × (list_any (λ (e : ℕ × Terminator). e.0 == claim.terminator.0) (admissible w j.service ask.instance) ≡ true)
    entitled = three_parts (nat_lt 0 (w.dial j.identity j.service)) (list_any (λ (r : RouterSeen). r.no.0 == claim.ingress.0) (ingresses w ask.ingress j.identity j.service))
        (list_any (λ (e : ℕ × Terminator). e.0 == claim.terminator.0) (admissible w j.service ask.instance)) j.entitled

    is_same : (e : ℕ × Terminator) → IsAdmissible w j.service ask.instance e → e.0 ≡ claim.terminator.0 → IsAdmissible w j.service ask.instance (claim.terminator.0, j.named)
    is_same e a same =
        subst (IsAdmissible w j.service ask.instance) (ap₂ {C = ℕ × Terminator} (λ n x. (n, x)) same
        (same_Some e.1 j.named (sym (at-unique w.terminators apart e a.present) ∙ (ap (at w.terminators) same ∙ j.present)))) a

    routed : (is_tight (hops w j.named.router) (claimed w claim.potentials j.named.router) j.named.router claim.ingress.0 claim.links ≡ true)
        × ((claim.total == terminator_cost w (claim.terminator.0, j.named) + claimed w claim.potentials j.named.router claim.ingress.0) ≡ true)
    routed = and_parts (is_tight (hops w j.named.router) (claimed w claim.potentials j.named.router) j.named.router claim.ingress.0 claim.links)
        (claim.total == terminator_cost w (claim.terminator.0, j.named) + claimed w claim.potentials j.named.router claim.ingress.0) j.routed

    with_parts : (r : RouterSeen) → IsIngress w ask.ingress j.identity j.service r → r.no.0 ≡ claim.ingress.0 → IsAdmissible w j.service ask.instance (claim.terminator.0, j.named)
        → IsCandidate w ask (claimed_candidate claim j.named)
    with_parts r enters same ends = record {
      identity = j.identity;
      service = j.service;
      router = r;
      terminator = (claim.terminator.0, j.named);
      who = j.who;
      what = j.what;
      enters = enters;
      ends = ends;
      path = subst (λ n. is_path w n claim.links j.named.router ≡ true) (sym same) path;
      told = ap₂ (λ n i. record {
        precedence = place_of j.named.precedence;
        total = n;
        terminator = claim.terminator.0;
        ingress = i;
        links = claim.links;
      }) total same;
    }
      where
        settles : Settles (hops w j.named.router) j.named.router (router_numbers w) (claimed w claim.potentials j.named.router)
        settles = justified-Settles w ask claim j (claim.terminator.0, j.named) ends (le_refl (place_of j.named.precedence))

        walk : goes (hops w j.named.router) j.named.router (claim.ingress.0 ∷ []) claim.ingress.0 claim.links ≡ true
        walk =
            tight_goes (hops w j.named.router) (claimed w claim.potentials j.named.router) j.named.router (hops_cost w j.named.router costs) claim.links (claim.ingress.0 ∷ []) claim.ingress.0
            (λ x e. le_of_eq (ap (claimed w claim.potentials j.named.router) (only x e))) routed.0
          where
            only : (x : ℕ) → is_among x (claim.ingress.0 ∷ []) ≡ true → claim.ingress.0 ≡ x
            only x e = either (or_cases (claim.ingress.0 == x) false e)
              where
                either : ((claim.ingress.0 == x) ≡ true) ⊎ (false ≡ true) → claim.ingress.0 ≡ x
                either (inl s) = eqb-true claim.ingress.0 x s
                either (inr s) = absurd (false≢true s)

        ends_on : is_on w j.named.router ≡ true
        ends_on = (and_parts (is_on w j.named.router) (option_map_or (may_host w j.named) j.named.host true) ends.serves).0

        path : is_path w claim.ingress.0 claim.links j.named.router ≡ true
        path =
            and_from (is_on w claim.ingress.0 && is_on w j.named.router) (goes (hops w j.named.router) j.named.router (claim.ingress.0 ∷ []) claim.ingress.0 claim.links)
            (and_from (is_on w claim.ingress.0) (is_on w j.named.router) (is_on-start w j.named.router claim.links (claim.ingress.0 ∷ []) claim.ingress.0 ends_on walk) ends_on) walk

        total : terminator_cost w (claim.terminator.0, j.named) + path_cost w r.no.0 claim.links j.named.router ≡ claim.total
        total =
            ap (λ n. terminator_cost w (claim.terminator.0, j.named) + n) (ap (λ v. path_cost w v claim.links j.named.router) same
            ∙ tight_cost (hops w j.named.router) (claimed w claim.potentials j.named.router) j.named.router settles.zero claim.links claim.ingress.0 routed.0)
            ∙ sym (eqb-true claim.total (terminator_cost w (claim.terminator.0, j.named) + claimed w claim.potentials j.named.router claim.ingress.0) routed.1)

-- the same for the terminator that the claim names
pub claimed_is_candidate : (w : Network) (ask : Ask) (claim : Explanation) (e : Terminator) → 1 ≤ w.least → NoneTwice (numbers w.terminators)
    → at w.terminators claim.terminator.0 ≡ Some e → justified w ask claim ≡ true → IsCandidate w ask (claimed_candidate claim e)
claimed_is_candidate w ask claim e costs apart named holds = by_parts (justified-parts w ask claim holds)
  where
    by_parts : IsJustified w ask claim → IsCandidate w ask (claimed_candidate claim e)
    by_parts j = subst (λ x. IsCandidate w ask (claimed_candidate claim x)) (same_Some j.named e (sym j.present ∙ named)) (justified-candidate w ask claim j costs apart)

-- ---- in a valid state

pub valid-no_better : (s : State) (ask : Ask) (claim : Explanation) (e : Terminator) → ValidState s → at s.terminators.rows claim.terminator.0 ≡ Some e → justified (network_of s) ask claim ≡ true
    → NoneIsBetter (network_of s) ask (place_of e.precedence) claim.total
valid-no_better s ask claim e valid = no_better_than (network_of s) ask claim e (valid-small_costs s valid)

pub valid-candidate : (s : State) (ask : Ask) (claim : Explanation) (e : Terminator) → ValidState s → at s.terminators.rows claim.terminator.0 ≡ Some e → justified (network_of s) ask claim ≡ true
    → IsCandidate (network_of s) ask (claimed_candidate claim e)
valid-candidate s ask claim e valid =
    claimed_is_candidate (network_of s) ask claim e (valid-least s valid) (Between-none_twice 1 s.terminators.next s.terminators.rows (valid.kinds kind.Terminator).numbers.ordered)
