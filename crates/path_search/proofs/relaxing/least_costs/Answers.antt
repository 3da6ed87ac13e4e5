use Rattle.std.proofs.Common.{arith, rules, ◌≡◌, ℕ, List, ◌∷◌, ◌∙◌, ap, length, replicate, subst}
use Rattle.std.specs.List.{slice_set}
use Rattle.ctrl_model.specs.Claims.{no_path}
use Rattle.std.specs.List.Sorted.{IsPermutation}
use Rattle.path_search.proofs.WaitingPlaces.{waiting_start}
use Rattle.std.proofs.lemmas.Grind.{common_steps}
use Rattle.path_search.proofs.LeastCosts.{supported_least, least_few}
use Rattle.path_search.proofs.relaxing.least_costs.Goals as goal

pub returns-clause-least : goal.returns-clause-least
returns-clause-least c = supported_least _ _ _ c.places-places.ensures.graph (grind (arith, common_steps)) (grind (arith, common_steps))

pub returns-clause-few : goal.returns-clause-few
returns-clause-few c =
    least_few c.args.graph.now c.args.target _ c.places-places.ensures.graph
    (supported_least _ _ _ c.places-places.ensures.graph (grind (arith, common_steps)) (grind (arith, common_steps)))

pub settle-requires-clause-waiting : goal.settle-requires-clause-waiting
settle-requires-clause-waiting c =
    let all_absent : c.in_ok-fixed.fixed.items ≡ replicate c.places-places.result no_path = search rules in
    waiting_start (length c.args.graph.now.through) c.args.target _ _ c.push.new.self c.requires.target
    (c.as_mut_slice.ensures.value ∙ (c.in_ok-potentials.ensures ∙ ap (λ n. slice_set (replicate n no_path) c.args.target 0) c.places-places.ensures.count))
    (c.as_mut_slice-2.ensures.value ∙ (all_absent ∙ ap (λ n. replicate n no_path) c.places-places.ensures.count))
    (subst (λ (xs : List (ℕ × ℕ)). IsPermutation ((0, c.args.target) ∷ xs) c.push.new.self) c.new-waiting.ensures c.in_ok-push.ensures)
