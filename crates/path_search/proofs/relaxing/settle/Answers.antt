use Rattle.std.proofs.Common.{◌<◌, ℕ, length, subst, arith}
use Rattle.std.proofs.lemmas.List.Elements.{All-head}
use Rattle.std.proofs.lemmas.List.Sorted.{length_permutation}
use Rattle.path_search.specs.Supports.{places_of}
use Rattle.path_search.proofs.Relaxations.{fixed_settled}
use Rattle.path_search.proofs.WaitingPlaces.{waiting_moved, none_waits}
use Rattle.path_search.proofs.relaxing.settle.Goals as goal

pub turn-requires-clause-place : goal.turn-requires-clause-place
turn-requires-clause-place c =
    let moved = waiting_moved c.turns.potentials c.turns.fixed c.turns.waiting _ c.in-Some.ensures.some c.turns.invariant.waiting in
    subst (λ (n : ℕ). c.in-Some.place < n) c.turns.invariant.spread.supported.places
    (All-head (λ v. v < length c.turns.potentials) c.in-Some.place (places_of c.pop.new.self) moved.places)

pub turn-requires-clause-waiting : goal.turn-requires-clause-waiting
turn-requires-clause-waiting c = waiting_moved c.turns.potentials c.turns.fixed c.turns.waiting _ c.in-Some.ensures.some c.turns.invariant.waiting

pub turns-smaller : goal.turns-smaller
turns-smaller c =
    let taken = length_permutation _ _ c.in-Some.ensures.some in
    let fewer = c.in_ok-turn.ensures.fewer in
    omega (arith, taken, fewer)

pub returns-clause-settled : goal.returns-clause-settled
returns-clause-settled c =
    fixed_settled c.args.search.now.graph.now c.args.search.now.target c.turns.potentials c.turns.fixed c.places-places.ensures.graph c.turns.invariant.spread
    (none_waits c.turns.potentials c.turns.fixed c.turns.waiting c.in_default.ensures.none c.turns.invariant.waiting)
