use Rattle.std.proofs.Common.{◌∙◌, ap, not, refl, Bool}
use Rattle.std.specs.List.{list_all}
use Rattle.std.proofs.lemmas.Bool.{OnTrue_at, OnFalse_at}
use Rattle.path_certificate.specs.declared.graph.Step.{Step}
use Rattle.path_certificate.specs.Graphs.{improves}
use Rattle.path_certificate.proofs.StepLaws.{start_within, end_within}
use Rattle.path_certificate.proofs.SweptSteps.{stops, goes_on, has_all}
use Rattle.path_certificate.proofs.checking.is_settled.Goals as goal

pub add_counting-requires-clause-from : goal.add_counting-requires-clause-from
add_counting-requires-clause-from c =
    start_within _ _ _ _ _ _ c.steps-steps.ensures.graph.each c.steps-steps.ensures.steps c.requires c.steps-test.true

pub add_counting-requires-clause-to : goal.add_counting-requires-clause-to
add_counting-requires-clause-to c =
    end_within _ _ _ _ _ _ c.steps-steps.ensures.graph.each c.steps-steps.ensures.steps c.requires c.steps-test.true

pub returns-then-not-make_room : goal.returns-then-not-make_room
returns-then-not-make_room c =
    let passes : Step → Bool = λ s. not (improves c.args.graph.now.through c.args.target c.args.potentials.now s) in
    stops passes c.steps-steps.result.now c.steps.step-index _ c.steps.invariant
    (OnFalse_at c.if-not-make_room.true c.make_room.ensures.none)
    ∙ ap (list_all passes) c.steps-steps.ensures.steps

pub steps-preserved : goal.steps-preserved
steps-preserved c =
    goes_on (λ s. not (improves c.args.graph.now.through c.args.target c.args.potentials.now s)) c.steps-steps.result.now c.steps.step-index _ _ _ _ _
    c.steps-test.true refl c.steps.invariant (OnTrue_at c.if-not-make_room.false c.make_room.ensures.same) c.add_counting.ensures

pub returns : goal.returns
returns c =
    let passes : Step → Bool = λ s. not (improves c.args.graph.now.through c.args.target c.args.potentials.now s) in
    has_all passes c.steps-steps.result.now c.steps.step-index c.hold.result _ c.steps-test.false c.steps.invariant c.hold.ensures
    ∙ ap (list_all passes) c.steps-steps.ensures.steps
