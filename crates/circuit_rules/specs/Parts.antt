-- The parts of a request as the private functions have them. No public contract cites it.
use Rattle.std.specs.Prelude.{ℕ, ◌+◌, ◌==◌, Bool, ◌&&◌, nat_lt, cond, List, [], map, filter, None, Some, option_and_then}
use Rattle.std.specs.declared.option.Option.{Option}
use Rattle.std.specs.List.{list_any, list_all}
use Rattle.std.specs.Str.{bytes_eq}
use Rattle.ctrl_model.specs.Walks.{Hops}
use Rattle.ctrl_model.specs.State.{Terminator}
use Rattle.ctrl_model.specs.Choices.{place_of}
use Rattle.ctrl_model.specs.declared.kinds.RouterSeen.{RouterSeen}
use Rattle.ctrl_model.specs.declared.claims.Explanation.{Explanation}
use Rattle.ctrl_model.specs.declared.claims.Reach.{Reach}
use Rattle.ctrl_model.specs.Networks.{Network}
use Rattle.ctrl_model.specs.Claims.{no_path, router_numbers, is_settled, is_route, is_no_better}
use Rattle.circuit_rules.specs.declared.offers.Offer.{Offer}
use Rattle.circuit_rules.specs.Offers.{is_carried}

-- A network in which no terminator has a load, so that each costs its static cost.
abbrev pub unloaded : Network → Network
unloaded w = record w { load = λ n. 0 }

-- A terminator that offers this where none has a load, and of which nothing else is known.
abbrev pub term_offered : Offer → ℕ × Terminator
term_offered o = (o.terminator.0, record { service = 0; router = o.router.0; instance = []; host = None; cost = o.cost; precedence = o.precedence })

-- Where a link leads from a router by a tight hop.
abbrev pub tight_next : Hops → (ℕ → ℕ) → ℕ → ℕ → Option ℕ
tight_next hop value v l =
    option_and_then (λ (h : ℕ × ℕ). cond ((value v == h.1 + value h.0) && nat_lt (value v) no_path) (Some h.0) None) (hop v l)

-- The identity may dial the service, the claimed ingress is one of these, and the claimed terminator is one that offers.
abbrev pub is_entitled_by : Network → Explanation → ℕ → ℕ → List RouterSeen → List Offer → Bool
is_entitled_by w claim i s ingresses offers =
    nat_lt 0 (w.dial i s) && (list_any (λ (r : RouterSeen). r.no.0 == claim.ingress.0) ingresses && list_any (λ o. o.terminator.0 == claim.terminator.0) offers)

-- The claim names exactly the present routers, and has an entry for exactly those that carry an offer.
abbrev pub is_complete_by : Network → Explanation → ℕ → List Offer → Bool
is_complete_by w claim place offers =
    bytes_eq claim.routers (router_numbers w)
    && bytes_eq (map (λ (e : Reach). e.router.0) claim.potentials) (filter (is_carried offers place) (router_numbers w))

-- No offer beats the claim from any of these ingresses.
abbrev pub none_beats_by : Network → Explanation → ℕ → List RouterSeen → List Offer → Bool
none_beats_by w claim place ingresses offers =
    list_all (λ (r : RouterSeen). list_all (λ o. is_no_better (unloaded w) claim place r.no.0 (term_offered o)) offers) ingresses

-- The claim is justified for an offer, of all offers and ingresses.
abbrev pub is_justified_by : Network → Explanation → ℕ → ℕ → List RouterSeen → List Offer → Offer → Bool
is_justified_by w claim i s ingresses offers offer =
    is_entitled_by w claim i s ingresses offers
    && (is_complete_by w claim (place_of offer.precedence) offers
    && (list_all (is_settled w) claim.potentials
    && (is_route (unloaded w) claim (term_offered offer) && none_beats_by w claim (place_of offer.precedence) ingresses offers)))
