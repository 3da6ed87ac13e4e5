use Rattle.std.proofs.Common.{◌&&◌, false, slice_index_or, refl, sym, ◌∙◌, arith, eq-eqb}
use Rattle.std.proofs.lemmas.Bool.{and_from}
use Rattle.grant_denorm.specs.declared.deltas.Delta.{Delta}
use Rattle.grant_denorm.specs.CountsAfter.{goes}
use Rattle.grant_denorm.specs.Deltas.{is_at}
use Rattle.grant_denorm.proofs.DeltaLaws.{counted-within}
use Rattle.grant_denorm.proofs.after.tally.Goals as goal

pub raise-requires : goal.raise-requires
raise-requires c =
    let none : Delta = record { a = 0; b = 0; up = false } in
    let step : Delta = slice_index_or c.args.steps.now c.steps.step-index none in
    let counts = λ (x : Delta). goes c.args.up x.up && is_at step.a step.b x in
    let itself = and_from (goes c.args.up step.up) (is_at step.a step.b step) (sym c.goes.ensures ∙ c.if-goes.true) (and_from _ _ (eq-eqb step.a step.a refl) (eq-eqb step.b step.b refl)) in
    let within = counted-within counts c.args.steps.now c.steps.step-index none c.steps-test.true itself in
    let so_far = c.steps.invariant step.a step.b in
    let most = c.requires step.a step.b in
    omega (arith, within, so_far, most)
