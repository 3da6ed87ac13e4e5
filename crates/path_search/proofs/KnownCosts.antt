-- A law on what the searches of one graph keep.
use Rattle.std.proofs.Common.{◌≡◌, ℕ, ◌<◌, ⊎_elim, List, length, ap}
use Rattle.path_certificate.specs.declared.graph.Step.{Step}
use Rattle.path_certificate.specs.Graphs.{GraphSeen}
use Rattle.path_search.specs.Visits.{costs_to, IsKnown, KeepsCosts}

-- where there are costs already, they are the least ones
pub known_already : (g : GraphSeen) (lists : List (List Step)) (costs : List (List ℕ)) (t : ℕ) → KeepsCosts g lists costs → t < length g.through
    → (length (costs_to costs t) ≡ 0 → ⊥) → IsKnown g t (costs_to costs t)
known_already g lists costs t k h some = ⊎_elim (λ e. absurd (some (ap length e))) (λ known. known) (k.each t h)
