use Rattle.std.proofs.Common.{◌%◌, ◌^◌, ℕ, [], ◌++◌, None, refl, sym, ap, ◌∙◌, subst, length-append, arith}
use Rattle.std.proofs.lemmas.Result.{err_from_is_err_and}
use Rattle.ziti_outside.specs.Images.{Image}
use Rattle.row_store.specs.StoredRows.{IsStoreOf}
use Rattle.ship_core.proofs.ReadLaws.{read_none, read_passed, read_fails}
use Rattle.ship_core.proofs.RecordSteps.{on_later, way_fails, way_ends}
use Rattle.ship_core.proofs.SaidLaws.{nothing_done, ships_same, ShipsFrames-then}
use Rattle.ship_core.proofs.WayLaws.{at_start}
use Rattle.ship_core.proofs.shipping.ship_kept.Goals as goal

pub records-init : goal.records-init
records-init g c = record {
  frames = [];
  ships = nothing_done c.args.desk.now;
  sequence = refl;
  read = read_none c.args.from _ refl refl;
  told = λ told. at_start (g.D.Desk.seen c.args.desk.now).reads c.args.store.now c.args.from _ c.requires.format (c.requires.kept told) refl refl;
}

pub pass_record-requires-clause-kept : goal.pass_record-requires-clause-kept
pass_record-requires-clause-kept g c = λ told. subst (λ (i : Image). IsStoreOf i c.args.store.now) (sym c.records.invariant.ships.alone.parts) (c.requires.kept told)

pub pass_record-requires-clause-within : goal.pass_record-requires-clause-within
pass_record-requires-clause-within g c =
    let here = c.records-test.true in
    let end = c.end-end.ensures.1 in
    omega (arith, here, end)

pub pass_record-requires-clause-told : goal.pass_record-requires-clause-told
pass_record-requires-clause-told g c = λ told.
    let held = c.records.invariant in (
      held.frames,
      on_later (g.D.Desk.seen c.args.desk.now).reads (g.D.Desk.seen c.records.desk).reads c.args.from c.records.way held.frames held.ships.alone.parts (held.told told),
    )

pub records-preserved : goal.records-preserved
records-preserved g c =
    let held = c.records.invariant in
    let old = (g.D.Desk.seen c.args.desk.now).reads in
    let mid = (g.D.Desk.seen c.records.desk).reads in
    let step = c.in_ok-way.ensures.passes held.frames held.sequence in
    record {
      frames = held.frames ++ step.all;
      ships = ShipsFrames-then None held.ships step.ships;
      sequence = step.sequence ∙ ap (λ (n : ℕ). n % 2 ^ 32) (sym (length-append held.frames step.all));
      read = read_passed c.args.from c.records.way _ held.frames step.all step.ops step.batch step.made c.in_ok-way.ensures.further step.serial held.read;
      told = λ told.
          let here = on_later old mid c.args.from c.records.way held.frames held.ships.alone.parts (held.told told) in
          on_later mid old c.args.from _ (held.frames ++ step.all) (sym held.ships.alone.parts) (step.told told here);
    }

pub records-smaller : goal.records-smaller
records-smaller g c =
    let here = c.records-test.true in
    let further = c.in_ok-way.ensures.further in
    omega (arith, here, further)

pub returns-in_err-way-clause-told : goal.returns-in_err-way-clause-told
returns-in_err-way-clause-told g c = λ told batches stands.
    let p = err_from_is_err_and c.from_residual.result c.from_residual.ensures.1 in
    let held = c.records.invariant in
    rw p.1 (rw p.2 (way_fails g.D.Desk.tells c.args.from c.records.way held.frames _ batches told stands held.ships (held.told told) (c.in_err-way.ensures.passes held.frames held.sequence)))

pub returns-in_err-way-clause-ships : goal.returns-in_err-way-clause-ships
returns-in_err-way-clause-ships g c =
    let p = err_from_is_err_and c.from_residual.result c.from_residual.ensures.1 in
    let held = c.records.invariant in
    let step = c.in_err-way.ensures.passes held.frames held.sequence in
    rw p.1 (rw p.2 (read_fails g.D.Desk.tells c.args.from c.records.way held.frames _ held.read held.ships step))

pub returns-clause-told : goal.returns-clause-told
returns-clause-told g c = λ told batches stands.
    let held = c.records.invariant in
    let past = c.records-test.false in
    let end = c.end-end.ensures.1 in
    way_ends c.args.store.now c.args.from c.records.way held.frames batches (c.requires.kept told) c.requires.format (omega (arith, past, end)) stands (held.told told) held.ships

pub returns-clause-ships : goal.returns-clause-ships
returns-clause-ships g c =
    let held = c.records.invariant in
    (held.read.batches, held.read.spelled, ships_same held.frames _ held.read.said held.ships)
