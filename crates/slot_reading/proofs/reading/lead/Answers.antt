use Rattle.std.proofs.Common.{Bool, true, false, subst}
use Rattle.slot_reading.specs.BatchRows.{rows_in}
use Rattle.slot_reading.specs.SlotReading.{Makes}
use Rattle.slot_reading.proofs.BatchLaws.{makes_at, makes_not}
use Rattle.slot_reading.proofs.reading.lead.Goals as goal

pub returns-then-not-branch-clause-made : goal.returns-then-not-branch-clause-made
returns-then-not-branch-clause-made c =
    let made : Makes (rows_in c.args.rows.now.entries) c.args.ops.now (rows_in c.make.new.rows.entries) false =
    subst (λ (b : Bool). Makes (rows_in c.args.rows.now.entries) c.args.ops.now (rows_in c.make.new.rows.entries) b) c.if-not-branch.true c.in_ok-make.ensures.made in
    makes_not c.args.format c.args.at (rows_in c.args.rows.now.entries) c.args.ops.now (rows_in c.make.new.rows.entries) made

pub returns-clause-made : goal.returns-clause-made
returns-clause-made c =
    let made : Makes (rows_in c.args.rows.now.entries) c.args.ops.now (rows_in c.make.new.rows.entries) true =
    subst (λ (b : Bool). Makes (rows_in c.args.rows.now.entries) c.args.ops.now (rows_in c.make.new.rows.entries) b) c.if-not-branch.false c.in_ok-make.ensures.made in
    makes_at c.args.format c.args.at (rows_in c.args.rows.now.entries) c.args.ops.now (rows_in c.make.new.rows.entries) c.may_lead.result made (c.may_lead.ensures (rows_in c.args.rows.now.entries) c.serial_of-before.ensures)
