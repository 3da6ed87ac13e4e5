use Rattle.std.proofs.Common.{rules, ℕ, ◌^◌, ◌<◌, length, None, Some, Option, subst, ◌∙◌}
use Rattle.ziti_outside.specs.Images.{Image}
use Rattle.ziti_outside.proofs.MomentLaws.{OnlyReads-then}
use Rattle.slot_reading.specs.BatchRows.{rows_in}
use Rattle.slot_reading.specs.SlotReading.{StepsTo}
use Rattle.slot_reading.proofs.SlotReadings.{read_on, read_end}
use Rattle.slot_reading.proofs.reading.read_slot.Goals as goal

pub returns-in-None-clause-whole : goal.returns-in-None-clause-whole
returns-in-None-clause-whole g c = λ told.
    let made = subst (λ (o : Option ℕ). StepsTo c.args.format ((g.D.Desk.seen c.records.desk).reads c.args.part) c.records.at (rows_in c.records.rows.entries) (rows_in c.step.new.rows.entries) o)
    c.in-None.is (c.in_ok-step.ensures.made told) in
    let here = subst (λ (i : Image). StepsTo c.args.format (i c.args.part) c.records.at (rows_in c.records.rows.entries) (rows_in c.step.new.rows.entries) None) c.records.invariant.only.parts made in
    read_end c.args.format _ c.records.at _ _ (c.records.invariant.read told) here.0 here.1

pub returns-in-None-clause-puttable : goal.returns-in-None-clause-puttable
returns-in-None-clause-puttable g c = c.in_ok-step.ensures.puttable c.records.invariant.puttable

pub records-preserved : goal.records-preserved
records-preserved g c = record {
  rises = c.step.ensures.rises;
  puttable = c.in_ok-step.ensures.puttable c.records.invariant.puttable;
  read = λ told.
      let made = subst (λ (o : Option ℕ). StepsTo c.args.format ((g.D.Desk.seen c.records.desk).reads c.args.part) c.records.at (rows_in c.records.rows.entries) (rows_in c.step.new.rows.entries) o)
      c.in-Some.is (c.in_ok-step.ensures.made told) in
      let here = subst (λ (i : Image). StepsTo c.args.format (i c.args.part) c.records.at (rows_in c.records.rows.entries) (rows_in c.step.new.rows.entries) (Some c.in-Some.next)) c.records.invariant.only.parts made in
      let range : c.in_ok-end.end < 2 ^ 64 = search rules in
      let small : length ((g.D.Desk.seen c.args.desk.now).reads c.args.part) < 2 ^ 64 = subst (λ (n : ℕ). n < 2 ^ 64) (c.records.invariant.end told) range in
      read_on c.args.format _ c.records.at c.in-Some.next _ _ small (c.records.invariant.read told) here;
  calm = c.in_ok-step.ensures.cause.calm ∙ c.records.invariant.calm;
  end = c.records.invariant.end;
  only = OnlyReads-then c.records.invariant.only c.step.ensures.reads;
}
