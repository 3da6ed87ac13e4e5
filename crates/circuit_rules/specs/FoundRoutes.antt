-- What the private functions that go through the precedences find. No public contract cites it.
use Rattle.std.specs.Prelude.{◌≡◌, ℕ, ◌<◌, ◌≤◌, List, None, Some, Ok, Err}
use Rattle.std.specs.declared.option.Option.{Option}
use Rattle.std.specs.declared.result.Result.{Result}
use Rattle.std.specs.List.{All}
use Rattle.ctrl_model.specs.declared.kinds.Precedence.{Precedence}
use Rattle.ctrl_model.specs.Networks.{Network}
use Rattle.ctrl_model.specs.Choices.{Ask, place_of}
use Rattle.circuit_rules.specs.declared.views.Route.{Route}
use Rattle.circuit_rules.specs.declared.views.DecideFault.{DecideFault}
use Rattle.circuit_rules.specs.declared.deciding.Ends.{Ends}
use Rattle.circuit_rules.specs.declared.deciding.Found.{Found}
use Rattle.route_choice.specs.declared.choosing.Entry.{Entry}
use Rattle.route_choice.specs.declared.choosing.Exit.{Exit}
use Rattle.route_choice.specs.RouteChoices.{exits_at}
use Rattle.circuit_rules.specs.Searched.{entries_to, exits_to, IsSearched}
use Rattle.ctrl_model.specs.Limits.{most_terminator_cost}

-- Of no precedence that stands before a place a route is found.
abbrev pub NoneBefore : Network → List Entry → List Exit → ℕ → Type 0
NoneBefore w entries exits place = (c : Precedence) → place_of c < place → IsSearched w entries (exits_at (place_of c) exits) None

-- The route is found of the precedence at one place, and of none before it a route is found; or of no precedence one is found.
abbrev pub IsFoundFirst : Network → List Entry → List Exit → Option Route → Type 0
IsFoundFirst w entries exits None = (c : Precedence) → IsSearched w entries (exits_at (place_of c) exits) None
IsFoundFirst w entries exits (Some r) = (place : ℕ) × IsSearched w entries (exits_at place exits) (Some r) × NoneBefore w entries exits place

-- The ends stand at places, of which there are so many, and no exit costs more than a terminator may.
pub record AreWithin (places : ℕ) (ends : Ends) : Type 0 where
  pub entries : All (λ (x : Entry). x.place < places) ends.entries.items
  pub exits : All (λ (o : Exit). o.place < places) ends.exits.items
  pub costs : All (λ (o : Exit). o.cost ≤ most_terminator_cost) ends.exits.items

-- The ends are those of a request.
abbrev pub AreEnds : Network → Ask → ℕ → ℕ → Ends → Type 0
AreEnds w ask i s ends = (ends.entries.items ≡ entries_to w ask i s) × (ends.exits.items ≡ exits_to w ask s)

-- The route of what was found.
abbrev pub route_found : Result Found DecideFault → Result Route DecideFault
route_found (Ok f) = Ok f.route
route_found (Err e) = Err e
