use Rattle.std.proofs.Common.{Bool, true, subst}
use Rattle.slot_reading.specs.BatchRows.{rows_in}
use Rattle.slot_reading.specs.SlotReading.{Adds}
use Rattle.slot_reading.proofs.PuttableRows.{puttable_leads}
use Rattle.slot_reading.proofs.reading.step.Goals as goal

pub returns-then-branch-clause-puttable : goal.returns-then-branch-clause-puttable
returns-then-branch-clause-puttable g c = λ all.
    let adds : Adds c.args.format c.args.at (rows_in c.args.rows.now.entries) c.in-Some.payload (rows_in c.add.new.rows.entries) true =
    subst (λ (b : Bool). Adds c.args.format c.args.at (rows_in c.args.rows.now.entries) c.in-Some.payload (rows_in c.add.new.rows.entries) b) c.if-branch.true c.in_ok-add-in-Some.ensures.added in
    puttable_leads _ _ c.in-Some.payload adds.0 all
