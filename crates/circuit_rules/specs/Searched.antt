-- What the private functions of the search for a route find. No public contract cites it.
use Rattle.std.specs.Prelude.{◌≡◌, ℕ, suc, ◌<◌, ◌==◌, Bool, true, false, cond, ⊤, List, [], ◌∷◌, ◌++◌, map, filter, length, None, Some, Ok, Err}
use Rattle.std.specs.declared.option.Option.{Option}
use Rattle.std.specs.declared.result.Result.{Result}
use Rattle.std.specs.Option.{option_map_or}
use Rattle.ctrl_model.specs.declared.kinds.RouterSeen.{RouterSeen}
use Rattle.ctrl_model.specs.declared.refusals.Denial.{Denial}
use Rattle.ctrl_model.specs.declared.refusals.Denial.TheVariants.{UnknownRouter, NoDial, NoSharedRouter, SharedRoutersOffline, NoTerminators, NoAdmissibleTerminator, NoPath, CircuitsFull}
use Rattle.ctrl_model.specs.State.{Terminator}
use Rattle.ctrl_model.specs.Matches.{is_nothing}
use Rattle.ctrl_model.specs.Numbered.{at}
use Rattle.ctrl_model.specs.Networks.{Network, is_counted, counted, admissible}
use Rattle.ctrl_model.specs.Choices.{Ask, Wanted, Candidate, IsBest, is_absent, place_of, shared, ingresses, candidates_for, first_denial}
use Rattle.path_certificate.specs.Graphs.{GraphSeen}
use Rattle.path_search.specs.Searches.{IsFirst}
use Rattle.path_search.specs.ExitCosts.{AreCosts}
use Rattle.route_choice.specs.RouteChoices.{first_of_all}
use Rattle.path_search.specs.Visits.{SearchSeen, costs_to}
use Rattle.fabric_graph.specs.Routers.{costs_at_most, IsGraphOf}
use Rattle.circuit_rules.specs.declared.views.Route.{Route}
use Rattle.circuit_rules.specs.declared.views.DecideFault.{DecideFault}
use Rattle.circuit_rules.specs.declared.views.DecideFault.TheVariants as fault
use Rattle.circuit_rules.specs.Decisions.{route_of}
use Rattle.route_choice.specs.declared.choosing.Choice.{Choice}
use Rattle.circuit_rules.specs.declared.offers.Offer.{Offer}
use Rattle.route_choice.specs.declared.choosing.Entry.{Entry}
use Rattle.route_choice.specs.declared.choosing.Exit.{Exit}
use Rattle.circuit_rules.specs.Offers.{offer_of}

-- ---- rules, a part of them at a time

-- The rules on where a circuit enters.
abbrev pub entry_rules : Network → Wanted → ℕ → ℕ → List (Bool × Denial)
entry_rules w ingress i s =
    (is_absent ingress, UnknownRouter)
    ∷ (w.dial i s == 0, NoDial)
    ∷ (is_nothing (shared w ingress i s), NoSharedRouter)
    ∷ (is_nothing (ingresses w ingress i s), SharedRoutersOffline)
    ∷ []

-- The rules on where a circuit ends.
abbrev pub offer_rules : Network → ℕ → List ℕ → List (Bool × Denial)
offer_rules w s instance =
    (is_nothing (counted w s instance), NoTerminators) ∷ (is_nothing (admissible w s instance), NoAdmissibleTerminator) ∷ []

-- The rules on both.
abbrev pub end_rules : Network → Ask → ℕ → ℕ → List (Bool × Denial)
end_rules w ask i s = entry_rules w ask.ingress i s ++ offer_rules w s ask.instance

-- The rules on the way between.
abbrev pub way_rules : Network → Ask → ℕ → ℕ → List (Bool × Denial)
way_rules w ask i s = (is_nothing (candidates_for w ask i s), NoPath) ∷ (w.full, CircuitsFull) ∷ []

-- None of the rules on where a circuit enters fails.
abbrev pub MayBeEntered : Network → Wanted → ℕ → ℕ → Type 0
MayBeEntered w ingress i s = first_denial (entry_rules w ingress i s) ≡ None

-- What comes of a part of the rules: something where none of them fails, and else the denial of the first that fails.
abbrev pub Passes : {X : Type 0} → List (Bool × Denial) → (X → Type 0) → Result X DecideFault → Type 0
Passes rules P (Ok x) = (first_denial rules ≡ None) × P x
Passes rules P (Err (fault.Denied d)) = first_denial rules ≡ Some d
Passes rules P (Err fault.NoMemory) = ⊤

-- ---- places

-- The place of the router of a number: how many stand before it.
abbrev pub place_in : List RouterSeen → ℕ → ℕ
place_in [] n = 0
place_in (r ∷ routers) n = cond (r.no.0 == n) 0 (suc (place_in routers n))

-- A router as a circuit enters there.
abbrev pub entry_of : List RouterSeen → RouterSeen → Entry
entry_of routers r = record { place = place_in routers r.no.0; router = r.no }

-- What a terminator offers as a circuit ends there.
abbrev pub exit_from : List RouterSeen → Offer → Exit
exit_from routers o = record { place = place_in routers o.router.0; terminator = o.terminator; cost = o.cost; precedence = o.precedence }

-- A terminator as a circuit ends there.
abbrev pub exit_of : Network → ℕ × Terminator → Exit
exit_of w e = exit_from w.routers (offer_of w e)

-- Whether a request counts the terminator of a number.
abbrev pub counts : Network → ℕ → List ℕ → ℕ → Bool
counts w s instance n = option_map_or (λ e. is_counted s instance (n, e)) (at w.terminators n) false

-- The entries of a request.
abbrev pub entries_to : Network → Ask → ℕ → ℕ → List Entry
entries_to w ask i s = map (entry_of w.routers) (ingresses w ask.ingress i s)

-- The exits of a request.
abbrev pub exits_to : Network → Ask → ℕ → List Exit
exits_to w ask s = map (exit_of w) (admissible w s ask.instance)

-- ---- the search

-- The route of a choice over links.
abbrev pub way_of : Choice → List ℕ → Route
way_of c links = record { ingress = record { 0 = c.ingress }; links = links; terminator = record { 0 = c.terminator }; total = c.total }

-- A route goes over the first of the least paths between the places of a choice.
abbrev pub GoesFirst : GraphSeen → List (List ℕ) → Choice → Route → Type 0
GoesFirst g costs c r = (r ≡ way_of c r.links) × IsFirst g c.to (costs_to costs c.to) c.from r.links

-- The route of the first choice, if there is one.
abbrev pub IsFound : GraphSeen → List (List ℕ) → Option Choice → Option Route → Type 0
IsFound g costs None None = ⊤
IsFound g costs None (Some r) = ⊥
IsFound g costs (Some c) None = ⊥
IsFound g costs (Some c) (Some r) = GoesFirst g costs c r

-- What a step of a graph of links costs at most: its link at most 65,535 and twice 60,000, and entering a router at most 65,535.
abbrev pub most_step_cost : ℕ
most_step_cost = 251070

-- A search goes over the graph of a network, and no step of the graph costs more than steps of links can.
pub record IsSearchOf (w : Network) (s : SearchSeen) : Type 0 where
  pub is_graph : IsGraphOf w s.graph
  pub most : costs_at_most most_step_cost s.graph.steps ≡ true

-- What a search of a network between entries and exits finds.
pub record IsSearched (w : Network) (entries : List Entry) (exits : List Exit) (found : Option Route) : Type 0 where
  pub graph : GraphSeen
  pub is_graph : IsGraphOf w graph
  pub costs : List (List ℕ)
  pub least : (t : ℕ) → t < length w.routers → AreCosts graph exits t (costs_to costs t)
  pub route : IsFound graph costs (first_of_all costs entries None exits) found

-- ---- the best route

-- The route of the best candidate.
pub record IsBestRoute (w : Network) (ask : Ask) (r : Route) : Type 0 where
  pub chosen : Candidate
  pub best : IsBest w ask chosen
  pub route : r ≡ route_of chosen

-- The route of the best candidate, or none where there is no candidate.
abbrev pub IsBestWay : Network → Ask → ℕ → ℕ → Option Route → Type 0
IsBestWay w ask i s None = candidates_for w ask i s ≡ []
IsBestWay w ask i s (Some r) = IsBestRoute w ask r
