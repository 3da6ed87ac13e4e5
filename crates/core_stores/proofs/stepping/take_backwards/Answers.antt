use Rattle.std.proofs.Common.{false, arith}
use Rattle.grant_denorm.specs.declared.deltas.Delta.{Delta}
use Rattle.core_stores.proofs.BackwardSteps.{last_taken, room_for_last}
use Rattle.core_stores.proofs.stepping.take_backwards.Goals as goal

pub apply_changes-requires : goal.apply_changes-requires
apply_changes-requires c =
    let none : Delta = record { a = 0; b = 0; up = false } in
    room_for_last c.args.counted.now c.steps.counted c.args.steps.now none c.steps.left c.steps-test.true c.steps.invariant.within c.requires c.steps.invariant.taken

pub steps-preserved : goal.steps-preserved
steps-preserved c =
    let none : Delta = record { a = 0; b = 0; up = false } in
    let within = c.steps.invariant.within in
    record {
      within = omega (arith, within);
      taken =
          last_taken c.args.counted.now c.steps.counted c.args.steps.now none c.steps.left c.steps-test.true within c.apply_changes.new.counted c.steps.invariant.taken
          c.in_ok-apply_changes.ensures;
    }
