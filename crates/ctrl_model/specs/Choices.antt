-- Candidates of a circuit request, the best of them, and the first rule that fails (docs/RULES.md, "Circuits").
use Rattle.std.specs.Prelude.{◌≡◌, ℕ, ◌+◌, ◌==◌, Bool, true, false, ◌&&◌, cond, List, [], ◌∷◌, ◌++◌, map, filter, None, Some}
use Rattle.std.specs.declared.option.Option.{Option}
use Rattle.std.specs.Option.{option_map_or}
use Rattle.std.specs.List.{flat_map}
use Rattle.ctrl_model.specs.declared.kinds.RouterSeen.{RouterSeen}
use Rattle.ctrl_model.specs.declared.kinds.Precedence.{Precedence}
use Rattle.ctrl_model.specs.declared.kinds.Precedence.TheVariants.{Required, Normal, Failed}
use Rattle.ctrl_model.specs.declared.refusals.Denial.{Denial}
use Rattle.ctrl_model.specs.declared.refusals.Denial.TheVariants.{UnknownIdentity, UnknownService, UnknownRouter, NoDial, NoSharedRouter, SharedRoutersOffline, NoTerminators, NoAdmissibleTerminator, NoPath, CircuitsFull}
use Rattle.ctrl_model.specs.Membership.{Among}
use Rattle.ctrl_model.specs.Ranks.{comes_before, least_by}
use Rattle.ctrl_model.specs.State.{Terminator}
use Rattle.ctrl_model.specs.Matches.{is_nothing}
use Rattle.ctrl_model.specs.Networks.{Network, is_shared, is_counted, is_in_service, counted, admissible, is_path, path_cost, paths}

-- The ingress that a request names: none, one that is absent, or one that is present.
pub data Wanted : Type 0 where
  Any : Wanted
  Absent : Wanted
  One : ℕ → Wanted

-- A circuit request, its names looked up: the identity, the service, the ingress and the instance.
pub record Ask : Type 0 where
  pub identity : Option ℕ
  pub service : Option ℕ
  pub ingress : Wanted
  pub instance : List ℕ

-- Whether a router is one that the request allows as its ingress.
abbrev pub is_wanted : Wanted → ℕ → Bool
is_wanted Any r = true
is_wanted Absent r = false
is_wanted (One n) r = n == r

-- Whether the request names an ingress that is absent.
abbrev pub is_absent : Wanted → Bool
is_absent Any = false
is_absent Absent = true
is_absent (One n) = false

-- The shared routers of an identity and a service, of which only the named one counts where one is named.
abbrev pub shared : Network → Wanted → ℕ → ℕ → List RouterSeen
shared w ingress i s = filter (λ r. is_wanted ingress r.no.0 && is_shared w i s r.no.0) w.routers

-- The possible ingress routers: those of these that are connected.
abbrev pub ingresses : Network → Wanted → ℕ → ℕ → List RouterSeen
ingresses w ingress i s = filter (λ (r : RouterSeen). r.connected) (shared w ingress i s)

-- The place of a precedence: required before default before failed.
abbrev pub place_of : Precedence → ℕ
place_of Required = 1
place_of Normal = 2
place_of Failed = 3

-- What a terminator costs: its static cost, and 1 for each circuit that is open there.
abbrev pub terminator_cost : Network → ℕ × Terminator → ℕ
terminator_cost w e = e.1.cost + w.load e.0

-- A candidate: its terminator's precedence, its total, its terminator, its ingress and its links.
pub record Candidate : Type 0 where
  pub precedence : ℕ
  pub total : ℕ
  pub terminator : ℕ
  pub ingress : ℕ
  pub links : List ℕ

-- The candidate of an ingress, a terminator and a path between them. Its total is the terminator's cost and the path's.
abbrev pub candidate : Network → RouterSeen → ℕ × Terminator → List ℕ → Candidate
candidate w r e links = record {
  precedence = place_of e.1.precedence;
  total = terminator_cost w e + path_cost w r.no.0 links e.1.router;
  terminator = e.0;
  ingress = r.no.0;
  links = links;
}

-- The rank of a candidate, compared from left to right: precedence, total, terminator, ingress, and last the links.
abbrev pub rank : Candidate → List ℕ
rank c = c.precedence ∷ c.total ∷ c.terminator ∷ c.ingress ∷ c.links

-- Whether one candidate precedes another.
abbrev pub precedes : Candidate → Candidate → Bool
precedes = comes_before rank

-- The candidates from one ingress to one terminator: one for each path.
abbrev pub candidates_between : Network → RouterSeen → ℕ × Terminator → List Candidate
candidates_between w r e = map (candidate w r e) (paths w r.no.0 e.1.router)

-- All candidates of a request whose identity and service are present.
abbrev pub candidates_for : Network → Ask → ℕ → ℕ → List Candidate
candidates_for w ask i s =
    flat_map (λ r. flat_map (candidates_between w r) (admissible w s ask.instance)) (ingresses w ask.ingress i s)

-- All candidates of a request.
abbrev pub candidates : Network → Ask → List Candidate
candidates w ask = option_map_or (λ i. option_map_or (candidates_for w ask i) ask.service []) ask.identity []

-- The best candidate of a request: the one that no candidate precedes.
abbrev pub best : Network → Ask → Option Candidate
best w ask = least_by rank (candidates w ask)

-- The denial of the first rule that fails, of rules in order, each with whether it fails.
abbrev pub first_denial : List (Bool × Denial) → Option Denial
first_denial [] = None
first_denial (x ∷ xs) = cond x.0 (Some x.1) (first_denial xs)

-- The rules of a request whose identity and service are present, in order, each with whether it fails, but for those on paths and on
-- room for circuits.
abbrev pub rules_but_paths : Network → Ask → ℕ → ℕ → List (Bool × Denial)
rules_but_paths w ask i s =
    (is_absent ask.ingress, UnknownRouter)
    ∷ (w.dial i s == 0, NoDial)
    ∷ (is_nothing (shared w ask.ingress i s), NoSharedRouter)
    ∷ (is_nothing (ingresses w ask.ingress i s), SharedRoutersOffline)
    ∷ (is_nothing (counted w s ask.instance), NoTerminators)
    ∷ (is_nothing (admissible w s ask.instance), NoAdmissibleTerminator)
    ∷ []

-- The other two rules of such a request.
abbrev pub rules_on_paths : Network → Ask → ℕ → ℕ → List (Bool × Denial)
rules_on_paths w ask i s = (is_nothing (candidates_for w ask i s), NoPath) ∷ (w.full, CircuitsFull) ∷ []

-- All rules of such a request.
abbrev pub failing : Network → Ask → ℕ → ℕ → List (Bool × Denial)
failing w ask i s = rules_but_paths w ask i s ++ rules_on_paths w ask i s

-- The first rule of a request that fails, if one does.
abbrev pub first_rule : Network → Ask → Option Denial
first_rule w ask =
    option_map_or (λ i. option_map_or (λ s. first_denial (failing w ask i s)) ask.service (Some UnknownService)) ask.identity (Some UnknownIdentity)

-- A router is a possible ingress of a request: it is present, the named one if one is named, shared and connected.
pub record IsIngress (w : Network) (ingress : Wanted) (i s : ℕ) (r : RouterSeen) : Type 0 where
  pub present : Among r w.routers
  pub wanted : is_wanted ingress r.no.0 ≡ true
  pub is_shared_by_both : is_shared w i s r.no.0 ≡ true
  pub is_connected : r.connected ≡ true

-- A terminator is admissible for a request: it is present, the request counts it, and it is in service.
pub record IsAdmissible (w : Network) (s : ℕ) (instance : List ℕ) (e : ℕ × Terminator) : Type 0 where
  pub present : Among e w.terminators
  pub is_counted_for : is_counted s instance e ≡ true
  pub serves : is_in_service w e ≡ true

-- A candidate of a request, said without lists: its identity and service are present, it goes from a possible ingress over a
-- path to the router of an admissible terminator, and its parts are those of that ingress, terminator and path.
pub record IsCandidate (w : Network) (ask : Ask) (c : Candidate) : Type 0 where
  pub identity : ℕ
  pub service : ℕ
  pub router : RouterSeen
  pub terminator : ℕ × Terminator
  pub who : ask.identity ≡ Some identity
  pub what : ask.service ≡ Some service
  pub enters : IsIngress w ask.ingress identity service router
  pub ends : IsAdmissible w service ask.instance terminator
  pub path : is_path w router.no.0 c.links terminator.1.router ≡ true
  pub told : candidate w router terminator c.links ≡ c

-- The best candidate: a candidate that no candidate precedes.
pub record IsBest (w : Network) (ask : Ask) (c : Candidate) : Type 0 where
  pub is_candidate : IsCandidate w ask c
  pub first : (d : Candidate) → IsCandidate w ask d → precedes d c ≡ false

-- A request is granted: its identity is granted Dial on its service, it has a best candidate, and circuits are not full.
pub record IsGranted (w : Network) (ask : Ask) : Type 0 where
  pub identity : ℕ
  pub service : ℕ
  pub who : ask.identity ≡ Some identity
  pub what : ask.service ≡ Some service
  pub dials : (w.dial identity service == 0) ≡ false
  pub chosen : Candidate
  pub is_chosen : best w ask ≡ Some chosen
  pub room : w.full ≡ false
