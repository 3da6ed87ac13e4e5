-- The explanation of a route, and when a claimed route is justified (docs/RULES.md, "Explanations and claims").
use Rattle.std.specs.Prelude.{ℕ, ◌+◌, ◌==◌, min, Bool, true, false, ◌&&◌, ◌||◌, nat_lt, nat_le, cond, List, [], ◌∷◌, length, map, filter, None, Some}
use Rattle.std.specs.declared.option.Option.{Option}
use Rattle.std.specs.Option.{option_map_or}
use Rattle.std.specs.List.{list_all, list_any}
use Rattle.std.specs.Str.{bytes_eq}
use Rattle.ctrl_model.specs.declared.kinds.RouterSeen.{RouterSeen}
use Rattle.ctrl_model.specs.declared.claims.Explanation.{Explanation}
use Rattle.ctrl_model.specs.declared.claims.Reach.{Reach}
use Rattle.ctrl_model.specs.Walks.{Hops}
use Rattle.ctrl_model.specs.Numbered.{at, numbers}
use Rattle.ctrl_model.specs.State.{Terminator}
use Rattle.ctrl_model.specs.Networks.{Network, hops, paths, path_cost, admissible}
use Rattle.ctrl_model.specs.Choices.{Ask, Candidate, place_of, terminator_cost, ingresses}

-- The potential that says that there is no path: the greatest number of 64 bits, written `null`.
abbrev pub no_path : ℕ
no_path = 18446744073709551615

-- The least of some numbers, and no path where there is none.
abbrev pub least_number : List ℕ → ℕ
least_number [] = no_path
least_number (n ∷ ns) = min n (least_number ns)

-- The least cost of a path from one router to another.
abbrev pub least_cost : Network → ℕ → ℕ → ℕ
least_cost w t v = least_number (map (λ links. path_cost w v links t) (paths w v t))

-- The numbers of the routers, ascending.
abbrev pub router_numbers : Network → List ℕ
router_numbers w = map (λ (r : RouterSeen). r.no.0) w.routers

-- The least costs of paths from each router to one.
abbrev pub reach_of : Network → ℕ → Reach
reach_of w t = record { router = record { 0 = t }; values = map (least_cost w t) (router_numbers w) }

-- Whether a router carries one of some terminators, of a precedence that is at most this one in place.
abbrev pub carries : List (ℕ × Terminator) → ℕ → ℕ → Bool
carries es place r = list_any (λ e. (e.1.router == r) && nat_le (place_of e.1.precedence) place) es

-- The routers that an explanation has an entry for: those that carry an admissible terminator of the precedence in question
-- or of a better one, by ascending number.
abbrev pub explained_routers : Network → Ask → ℕ → ℕ → List ℕ
explained_routers w ask s place = filter (carries (admissible w s ask.instance) place) (router_numbers w)

-- The explanation of a candidate as the route of a request for a service.
abbrev pub explanation_of : Network → Ask → ℕ → Candidate → Explanation
explanation_of w ask s c = record {
  ingress = record { 0 = c.ingress };
  links = c.links;
  potentials = map (reach_of w) (explained_routers w ask s c.precedence);
  routers = router_numbers w;
  terminator = record { 0 = c.terminator };
  total = c.total;
}

-- The value that an entry gives a router: the one at the router's place among the routers.
abbrev pub value_at : List ℕ → List ℕ → ℕ → ℕ
value_at [] values r = no_path
value_at (n ∷ ns) [] r = no_path
value_at (n ∷ ns) (p ∷ ps) r = cond (n == r) p (value_at ns ps r)

-- A cost and a value together; what reaches the greatest number counts as no path.
abbrev pub reach_over : ℕ → ℕ → ℕ
reach_over c p = min (c + p) no_path

-- A hop does not improve the value of the router that it leaves.
abbrev pub does_not_improve : (ℕ → ℕ) → ℕ → Option (ℕ × ℕ) → Bool
does_not_improve value v hop = option_map_or (λ (h : ℕ × ℕ). nat_le (value v) (reach_over h.1 (value h.0))) hop true

-- An entry is settled: it has a value for each router, 0 at its own, and no hop on the way to it improves a value.
abbrev pub is_settled : Network → Reach → Bool
is_settled w e =
    (length e.values == length w.routers)
    && ((value_at (router_numbers w) e.values e.router.0 == 0)
    && list_all (λ v. list_all (λ l. does_not_improve (value_at (router_numbers w) e.values) v (hops w e.router.0 v l)) (numbers w.links)) (router_numbers w))

-- The links are a chain of tight hops from a router to the target: each costs exactly what the value falls.
abbrev pub is_tight : Hops → (ℕ → ℕ) → ℕ → ℕ → List ℕ → Bool
is_tight hop value t v [] = v == t
is_tight hop value t v (l ∷ ls) =
    option_map_or (λ (h : ℕ × ℕ). (value v == h.1 + value h.0) && (nat_lt (value v) no_path && is_tight hop value t h.0 ls)) (hop v l) false

-- The entry for a router, if the claim has one.
abbrev pub entry_for : List Reach → ℕ → Option Reach
entry_for [] t = None
entry_for (e ∷ es) t = cond (e.router.0 == t) (Some e) (entry_for es t)

-- The value that a claim gives a router on the way to a target.
abbrev pub claimed : Network → List Reach → ℕ → ℕ → ℕ
claimed w es t v = option_map_or (λ (e : Reach). value_at (router_numbers w) e.values v) (entry_for es t) no_path

-- The terminator does not beat the claim: from this ingress, one of a better precedence has no path, and one of the claim's
-- precedence has none of a lower total.
abbrev pub is_no_better : Network → Explanation → ℕ → ℕ → ℕ × Terminator → Bool
is_no_better w claim place ingress e =
    cond (nat_lt (place_of e.1.precedence) place)
    (claimed w claim.potentials e.1.router ingress == no_path)
    (cond (place_of e.1.precedence == place)
    ((claimed w claim.potentials e.1.router ingress == no_path)
    || nat_le claim.total (terminator_cost w e + claimed w claim.potentials e.1.router ingress))
    true)

-- The identity may dial the service, the claimed ingress is one that the request may take, and the claimed terminator is
-- admissible.
abbrev pub is_entitled : Network → Ask → Explanation → ℕ → ℕ → Bool
is_entitled w ask claim i s =
    nat_lt 0 (w.dial i s)
    && (list_any (λ (r : RouterSeen). r.no.0 == claim.ingress.0) (ingresses w ask.ingress i s)
    && list_any (λ e. e.0 == claim.terminator.0) (admissible w s ask.instance))

-- The claim names exactly the present routers, and has exactly the entries of an explanation, in its order.
abbrev pub is_complete : Network → Ask → Explanation → ℕ → ℕ → Bool
is_complete w ask claim s place =
    bytes_eq claim.routers (router_numbers w)
    && bytes_eq (map (λ (e : Reach). e.router.0) claim.potentials) (explained_routers w ask s place)

-- The claimed links are a chain of tight hops from the ingress to the terminator's router, and the total is the terminator's
-- cost and the value at the ingress.
abbrev pub is_route : Network → Explanation → ℕ × Terminator → Bool
is_route w claim e =
    is_tight (hops w e.1.router) (claimed w claim.potentials e.1.router) e.1.router claim.ingress.0 claim.links
    && (claim.total == terminator_cost w e + claimed w claim.potentials e.1.router claim.ingress.0)

-- The claim is justified for a present identity and service and the terminator that it names.
abbrev pub justified_for : Network → Ask → Explanation → ℕ → ℕ → ℕ × Terminator → Bool
justified_for w ask claim i s e =
    is_entitled w ask claim i s
    && (is_complete w ask claim s (place_of e.1.precedence)
    && (list_all (is_settled w) claim.potentials
    && (is_route w claim e
    && list_all (λ (r : RouterSeen). list_all (is_no_better w claim (place_of e.1.precedence) r.no.0) (admissible w s ask.instance))
    (ingresses w ask.ingress i s))))

-- Whether a claimed route is justified: its identity, its service and its terminator are present, and the claim is justified
-- for them.
abbrev pub justified : Network → Ask → Explanation → Bool
justified w ask claim =
    option_map_or (λ i. option_map_or (λ s. option_map_or
    (λ e. justified_for w ask claim i s (claim.terminator.0, e)) (at w.terminators claim.terminator.0) false) ask.service false) ask.identity false
