-- What the searches of one graph, each to a place, come to know (docs/PROMISES.md, "Paths of a graph").
use Rattle.std.specs.Prelude.{◌≡◌, ℕ, ◌<◌, ◌⊎◌, List, [], length}
use Rattle.path_certificate.specs.Graphs.{GraphSeen}
use Rattle.path_certificate.specs.StepLists.{AreListed}
use Rattle.path_certificate.specs.declared.graph.Step.{Step}
use Rattle.path_certificate.specs.declared.listing.StepEnd.TheVariants as step_end
use Rattle.path_search.specs.Searches.{IsLeast, AreFew}
pub use Rattle.route_choice.specs.RouteChoices.{costs_to}

-- The least costs of paths to a place, each with its bound.
abbrev pub IsKnown : GraphSeen → ℕ → List ℕ → Type 0
IsKnown g place p = IsLeast g place p × AreFew g p

-- A graph, and the least costs to those of its places that were searched.
pub record SearchSeen : Type 0 where
  pub graph : GraphSeen
  pub costs : List (List ℕ)

-- What a search keeps: the steps of its graph by the places that they lead to, and for each place nothing or the least costs to it.
pub record KeepsCosts (g : GraphSeen) (lists : List (List Step)) (costs : List (List ℕ)) : Type 0 where
  pub listed : AreListed step_end.To (length g.through) g.steps lists
  pub places : length costs ≡ length g.through
  pub each : (t : ℕ) → t < length g.through → (costs_to costs t ≡ []) ⊎ IsKnown g t (costs_to costs t)
