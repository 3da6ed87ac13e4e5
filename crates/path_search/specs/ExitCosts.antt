-- What is known of the costs to the places of exits (docs/PROMISES.md, "Paths of a graph").
use Rattle.std.specs.Prelude.{◌≡◌, ℕ, ◌==◌, Bool, true, List}
use Rattle.std.specs.List.{list_any}
use Rattle.path_certificate.specs.Graphs.{GraphSeen}
use Rattle.route_choice.specs.declared.choosing.Exit.{Exit}
use Rattle.path_search.specs.Visits.{IsKnown}

-- Whether one of the exits stands at a place.
abbrev pub is_exit_at : List Exit → ℕ → Bool
is_exit_at exits place = list_any (λ o. o.place == place) exits

-- The least costs of paths to a place, if it has an exit.
abbrev pub AreCosts : GraphSeen → List Exit → ℕ → List ℕ → Type 0
AreCosts g exits place p = is_exit_at exits place ≡ true → IsKnown g place p
