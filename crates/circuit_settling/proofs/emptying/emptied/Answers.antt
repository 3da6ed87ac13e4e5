use Rattle.std.proofs.Common.{◌==◌, ◌&&◌, not, slice_index_or, sym, ◌∙◌, false, arith, eqb-true}
use Rattle.std.proofs.lemmas.Bool.{and_parts}
use Rattle.grant_denorm.specs.declared.deltas.Delta.{Delta}
use Rattle.grant_denorm.specs.CountsAfter.{count_after}
use Rattle.grant_denorm.specs.PairCounts.{count_of}
use Rattle.circuit_settling.proofs.EmptiedLaws.{passed, raised}
use Rattle.circuit_settling.proofs.emptying.emptied.Goals as goal
use Rattle.circuit_settling.proofs.emptying.emptied.Goals.{then-empties+in_ok-raise, else-empties}

pub raise-requires : goal.raise-requires
raise-requires c =
    let step : Delta = slice_index_or c.args.steps.now c.steps.step-index (record { a = 0; b = 0; up = false }) in
    let after = count_after c.args.after.now step.a step.b in
    let told = count_of c.steps.pairs step.a step.b in
    let parts = and_parts (not step.up) ((after == 0) && (told == 0)) (sym c.empties.ensures ∙ c.if-empties.true) in
    let none = eqb-true told 0 (and_parts (after == 0) (told == 0) parts.1).1 in omega (arith, none)

pub steps-preserved : goal.steps-preserved
steps-preserved c =
    let none : Delta = record { a = 0; b = 0; up = false } in
    elim c.if-empties.branch [
      | then-empties+in_ok-raise w ↦ rw w.pairs-is
          (raised c.args.steps.now (count_after c.args.after.now) c.steps.step-index none c.steps-test.true c.steps.pairs w.raise.new.self (sym c.empties.ensures ∙ w.if-empties.true) w.in_ok-raise.ensures.ok c.steps.invariant)
      | else-empties w ↦ rw w.pairs-is
          (passed c.args.steps.now (count_after c.args.after.now) c.steps.step-index none c.steps-test.true c.steps.pairs (sym c.empties.ensures ∙ w.if-empties.false) c.steps.invariant)
    ]
