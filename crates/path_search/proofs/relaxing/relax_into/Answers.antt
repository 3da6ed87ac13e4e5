use Rattle.std.proofs.Common.{sym, refl, ◌∙◌}
use Rattle.path_search.specs.Supports.{places_of}
use Rattle.path_search.proofs.Relaxations.{into_from, into_to, relaxing_next, relaxed_whole}
use Rattle.path_search.proofs.WaitingPlaces.{grown_on}
use Rattle.path_search.proofs.relaxing.relax_into.Goals as goal

pub relax_and_wait-requires-clause-from : goal.relax_and_wait-requires-clause-from
relax_and_wait-requires-clause-from c =
    into_from c.args.graph.now c.args.target c.args.place c.args.into.now c.steps.potentials c.steps.step-index _ c.places-places.ensures.graph c.requires.into c.steps.invariant.relaxing.supported c.steps-test.true

pub relax_and_wait-requires-clause-to : goal.relax_and_wait-requires-clause-to
relax_and_wait-requires-clause-to c =
    into_to c.args.graph.now c.args.target c.args.place c.args.into.now c.steps.potentials c.steps.step-index _ c.places-places.ensures.graph c.requires.into c.steps.invariant.relaxing.supported c.steps-test.true

pub steps-preserved : goal.steps-preserved
steps-preserved c = record {
  relaxing =
      relaxing_next c.args.graph.now c.args.target c.args.place c.args.into.now c.args.potentials.now c.steps.potentials c.relax_and_wait.new.potentials _ c.steps.step-index _
      c.places-places.ensures.graph c.requires.into c.steps-test.true c.steps.invariant.relaxing refl c.in_ok-relax_and_wait.ensures.set c.in_ok-relax_and_wait.ensures.same;
  grown =
      grown_on c.args.potentials.now c.steps.potentials c.relax_and_wait.new.potentials (places_of c.args.waiting.now) (places_of c.steps.waiting) _
      (c.steps.invariant.relaxing.supported.places ∙ sym c.requires.supported.places) c.steps.invariant.grown c.in_ok-relax_and_wait.ensures.grown;
}

pub returns-clause-relaxed : goal.returns-clause-relaxed
returns-clause-relaxed c =
    relaxed_whole c.args.graph.now c.args.target c.args.place c.args.into.now c.args.potentials.now c.steps.potentials c.steps.step-index c.requires.into
    c.steps-test.false c.steps.invariant.relaxing
