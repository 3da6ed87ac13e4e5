use Rattle.std.proofs.Common.{length, arith}
use Rattle.std.proofs.lemmas.Result.{err_from_is_err_and, IfOk-weaker}
use Rattle.ship_core.proofs.RecordSteps.{not_read, read_said, err_unwritten}
use Rattle.ship_core.proofs.WayLaws.{next_gate}
use Rattle.ship_core.proofs.records.pass_record.Goals as goal

pub record_at-requires-clause-gate : goal.record_at-requires-clause-gate
record_at-requires-clause-gate g c = λ told.
    let on = c.requires.told told in
    next_gate (g.D.Desk.seen c.args.desk.now).reads c.args.store.now c.args.from c.args.way on.0 c.requires.format (c.requires.some told) (c.requires.kept told) on.1

pub returns-in_err-batch-clause-passes : goal.returns-in_err-batch-clause-passes
returns-in_err-batch-clause-passes g c = λ frames e.
    let p = err_from_is_err_and c.from_residual.result c.from_residual.ensures.1 in
    rw p.1 (rw p.2 (not_read g.D.Desk.tells c.args.from c.args.way frames _ (err_unwritten _ c.in_err-batch.ensures.unwritten) c.record_at.ensures.reads c.in_err-batch.ensures.cause))

pub returns-clause-passes : goal.returns-clause-passes
returns-clause-passes g c = λ frames e.
    read_said g.D.Desk.tells c.args.store.now c.args.from c.args.way frames c.in_ok-batch.batch c.in_ok-batch.next c.say_record.result c.in_ok-batch.ensures.batch c.requires.some c.requires.kept c.in_ok-batch.ensures.found
    c.record_at.ensures.reads c.in_ok-batch.ensures.cause (c.say_record.ensures.ships (length frames) e) c.say_record.ensures.on
    (IfOk-weaker c.say_record.result _ _ (λ w s. s (length frames) e) c.say_record.ensures.sequence)

pub returns-clause-further : goal.returns-clause-further
returns-clause-further g c =
    let step = c.in_ok-batch.ensures.further in
    IfOk-weaker c.say_record.result _ _ (λ w on. let at = on.0 in omega (arith, step, at)) c.say_record.ensures.on
