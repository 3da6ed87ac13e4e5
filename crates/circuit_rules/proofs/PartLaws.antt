-- Laws on the parts of a request: what is asked of offers and ingresses is what is asked of the terminators and routers.
use Rattle.std.proofs.Common.{◌≡◌, ℕ, ◌+◌, ◌==◌, ◌||◌, ◌&&◌, nat_lt, nat_le, Bool, true, false, cond, arith, ◌∙◌, List, [], ◌∷◌, map, filter, Option, Some, None, Result, IfOk, refl, ap, ap₂, bytes_eq}
use Rattle.std.proofs.lemmas.List.Folds.{list_all-map}
use Rattle.std.proofs.lemmas.Option.{same_Some}
use Rattle.std.specs.Option.{option_map, option_map_or}
use Rattle.std.specs.declared.alloc.AllocError.{AllocError}
use Rattle.std.specs.List.{list_all, list_any}
use Rattle.ctrl_model.specs.declared.kinds.RouterSeen.{RouterSeen}
use Rattle.ctrl_model.specs.declared.claims.Explanation.{Explanation}
use Rattle.ctrl_model.specs.declared.claims.Reach.{Reach}
use Rattle.ctrl_model.specs.Networks.{Network, admissible, hops}
use Rattle.ctrl_model.specs.Numbered.{at}
use Rattle.ctrl_model.specs.State.{Terminator}
use Rattle.ctrl_model.specs.Choices.{Ask, ingresses, place_of, terminator_cost}
use Rattle.ctrl_model.specs.Claims.{no_path, claimed, is_tight, router_numbers, carries, explained_routers, is_settled, is_route, is_no_better, is_entitled, is_complete, justified, justified_for}
use Rattle.circuit_rules.specs.declared.offers.Offer.{Offer}
use Rattle.circuit_rules.specs.Offers.{offer_of, offer_at, is_carried}
use Rattle.circuit_rules.specs.Parts.{term_offered, unloaded, is_entitled_by, is_complete_by, none_beats_by, is_justified_by}

pub list_any-map : {X Y : Type 0} (p : X → Bool) (h : Y → X) (ys : List Y) → list_any p (map h ys) ≡ list_any (λ y. p (h y)) ys
list_any-map p h [] = refl
list_any-map p h (y ∷ ys) = ap (λ b. p (h y) || b) (list_any-map p h ys)

pub carried : (w : Network) (es : List (ℕ × Terminator)) (place r : ℕ) → is_carried (map (offer_of w) es) place r ≡ carries es place r
carried w es place r = list_any-map (λ (o : Offer). (o.router.0 == r) && nat_le (place_of o.precedence) place) (offer_of w) es

-- the numbers of the routers that carry an offer of the admissible terminators
pub carrying : (w : Network) (ask : Ask) (s place : ℕ) → filter (is_carried (map (offer_of w) (admissible w s ask.instance)) place) (router_numbers w) ≡ explained_routers w ask s place
carrying w ask s place = ap (λ (p : ℕ → Bool). filter p (router_numbers w)) (λ i r. carried w (admissible w s ask.instance) place r i)

entitled : (w : Network) (ask : Ask) (claim : Explanation) (i s : ℕ)
    → is_entitled_by w claim i s (ingresses w ask.ingress i s) (map (offer_of w) (admissible w s ask.instance)) ≡ is_entitled w ask claim i s
entitled w ask claim i s =
    ap (λ b. nat_lt 0 (w.dial i s) && (list_any (λ (r : RouterSeen). r.no.0 == claim.ingress.0) (ingresses w ask.ingress i s) && b))
    (list_any-map (λ (o : Offer). o.terminator.0 == claim.terminator.0) (offer_of w) (admissible w s ask.instance))

complete : (w : Network) (ask : Ask) (claim : Explanation) (s place : ℕ)
    → is_complete_by w claim place (map (offer_of w) (admissible w s ask.instance)) ≡ is_complete w ask claim s place
complete w ask claim s place =
    ap (λ rs. bytes_eq claim.routers (router_numbers w) && bytes_eq (map (λ (e : Reach). e.router.0) claim.potentials) rs) (carrying w ask s place)

plus_none : (n : ℕ) → n + 0 ≡ n
plus_none n = omega arith

-- what is said of an offer where none has a load is said of its terminator
no_better_alike : (w : Network) (claim : Explanation) (place r : ℕ) (e : ℕ × Terminator) → is_no_better (unloaded w) claim place r (term_offered (offer_of w e)) ≡ is_no_better w claim place r e
no_better_alike w claim place r e =
    ap (λ n. cond (nat_lt (place_of e.1.precedence) place) (claimed w claim.potentials e.1.router r == no_path)
    (cond (place_of e.1.precedence == place) ((claimed w claim.potentials e.1.router r == no_path) || nat_le claim.total (n + claimed w claim.potentials e.1.router r)) true))
    (plus_none (terminator_cost w e))

route_alike : (w : Network) (claim : Explanation) (e : ℕ × Terminator) → is_route (unloaded w) claim (term_offered (offer_of w e)) ≡ is_route w claim e
route_alike w claim e =
    ap (λ n. is_tight (hops w e.1.router) (claimed w claim.potentials e.1.router) e.1.router claim.ingress.0 claim.links && (claim.total == n + claimed w claim.potentials e.1.router claim.ingress.0))
    (plus_none (terminator_cost w e))

none_beats : (w : Network) (ask : Ask) (claim : Explanation) (i s place : ℕ)
    → none_beats_by w claim place (ingresses w ask.ingress i s) (map (offer_of w) (admissible w s ask.instance))
    ≡ list_all (λ (r : RouterSeen). list_all (is_no_better w claim place r.no.0) (admissible w s ask.instance)) (ingresses w ask.ingress i s)
none_beats w ask claim i s place =
    ap (λ (p : RouterSeen → Bool). list_all p (ingresses w ask.ingress i s))
    (λ j r. (list_all-map (λ (o : Offer). is_no_better (unloaded w) claim place r.no.0 (term_offered o)) (offer_of w) (admissible w s ask.instance)
    ∙ (λ i. list_all (λ e. no_better_alike w claim place r.no.0 e i) (admissible w s ask.instance))) j)

pub justified-by : (w : Network) (ask : Ask) (claim : Explanation) (i s : ℕ) (e : ℕ × Terminator)
    → is_justified_by w claim i s (ingresses w ask.ingress i s) (map (offer_of w) (admissible w s ask.instance)) (offer_of w e) ≡ justified_for w ask claim i s e
justified-by w ask claim i s e =
    ap₂ (λ a b. a && b) (entitled w ask claim i s)
    (λ j. complete w ask claim s (place_of e.1.precedence) j && (list_all (is_settled w) claim.potentials && (route_alike w claim e j && none_beats w ask claim i s (place_of e.1.precedence) j)))

-- what is judged for every terminator that offers this is judged for the claimed one, where it offers this
pub judged-offer : (w : Network) (ask : Ask) (claim : Explanation) (i s : ℕ) (offer : Offer) (r : Result Bool AllocError) → Some offer ≡ offer_at w claim.terminator.0
    → ((e : ℕ × Terminator) → offer ≡ offer_of w e → IfOk r (λ yes. yes ≡ justified_for w ask claim i s e))
    → IfOk r (λ yes. yes ≡ option_map_or (λ t. justified_for w ask claim i s (claim.terminator.0, t)) (at w.terminators claim.terminator.0) false)
judged-offer w ask claim i s offer r offers judged = of (at w.terminators claim.terminator.0) offers
  where
    of : (o : Option Terminator) → Some offer ≡ option_map (λ t. offer_of w (claim.terminator.0, t)) o
        → IfOk r (λ yes. yes ≡ option_map_or (λ t. justified_for w ask claim i s (claim.terminator.0, t)) o false)
    of None is = absurd (cc)
    of (Some t) is = judged (claim.terminator.0, t) (same_Some offer (offer_of w (claim.terminator.0, t)) is)

-- a claim of a request that names its identity and its service
pub justified-named : (w : Network) (ask : Ask) (claim : Explanation) (i s : ℕ) → ask.identity ≡ Some i → ask.service ≡ Some s
    → justified w ask claim ≡ option_map_or (λ t. justified_for w ask claim i s (claim.terminator.0, t)) (at w.terminators claim.terminator.0) false
justified-named w ask claim i s who what = λ j.
    option_map_or (λ i. option_map_or (λ s. option_map_or (λ t. justified_for w ask claim i s (claim.terminator.0, t)) (at w.terminators claim.terminator.0) false) (what j) false) (who j) false
