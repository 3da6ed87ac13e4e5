use Rattle.std.proofs.Common.{ℕ, ◌∷◌, ◌≤◌, List, subst, map}
use Rattle.std.specs.BinaryHeap.{heap_items}
use Rattle.std.specs.List.{All}
use Rattle.std.specs.List.Sorted.{IsPermutation}
use Rattle.std.proofs.lemmas.List.Sorted.{IsPermutation-map}
use Rattle.path_search.proofs.WaitingPlaces.{least_of}
use Rattle.path_search.proofs.waiting.Waiting.pop.Goals as goal

pub returns-clause-some : goal.returns-clause-some
returns-clause-some c =
    subst (λ (xs : List (ℕ × ℕ)). IsPermutation xs (c.in_ok-pair.field-0.0 ∷ map (λ e. e.0) (heap_items c.pop.new.self))) c.self.view_is
    (IsPermutation-map (λ e. e.0) _ _ c.in_ok-pair.ensures.permutation)

pub returns-clause-least : goal.returns-clause-least
returns-clause-least c =
    subst (λ (xs : List (ℕ × ℕ)). All (λ other. c.in_ok-pair.field-0.0.0 ≤ other.0) xs) c.self.view_is
    (least_of c.in_ok-pair.field-0.0 (heap_items c.self.inside.heap) (c.in_ok-pair.ensures.heap_order c.self.invariant).1)
