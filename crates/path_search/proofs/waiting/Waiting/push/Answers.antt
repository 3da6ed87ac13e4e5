use Rattle.std.proofs.Common.{ℕ, ◌∷◌, List, subst, map}
use Rattle.std.specs.BinaryHeap.{heap_items}
use Rattle.std.specs.List.Sorted.{IsPermutation}
use Rattle.std.proofs.lemmas.List.Sorted.{IsPermutation-map}
use Rattle.path_search.proofs.waiting.Waiting.push.Goals as goal

pub returns : goal.returns
returns c =
    subst (λ (xs : List (ℕ × ℕ)). IsPermutation ((c.args.potential, c.args.place) ∷ xs) (map (λ e. e.0) (heap_items c.push.new.self))) c.self.view_is
    (IsPermutation-map (λ e. e.0) _ _ c.in_ok-push.ensures.permutation)
