use Rattle.std.proofs.Common.{List, inl, inr}
use Rattle.std.proofs.lemmas.Result.{IfOk-weaker}
use Rattle.ctrl_model.specs.declared.formats.Format.{Format}
use Rattle.ctrl_core.specs.KeptState.{Cored}
use Rattle.row_codec.specs.declared.changes.Op.{Op}
use Rattle.zitilook.proofs.ComparingLaws.{closed_beside, other_closed, said_beside}
use Rattle.zitilook.proofs.comparing.compare_from.Goals as goal

pub returns-in-Ok-clause-says : goal.returns-in-Ok-clause-says
returns-in-Ok-clause-says g c = λ f s left.
    let t = c.in-Ok.read.0.state in
    inr (record {
      other_state = t;
      valid = c.in-Ok.ensures.valid;
      opens = c.in-Ok.ensures.opens;
      says = c.say_between.ensures.says f c.in-Ok.read.1 s t left c.rows_opened-right.ensures.rows;
    })

pub returns-in-Ok-clause-ends : goal.returns-in-Ok-clause-ends
returns-in-Ok-clause-ends g c =
    said_beside g.D.Desk.seen g.D.Desk.stopped g.E.Desk.seen g.E.Desk.stopped c.args.other.now c.peek_rows.new.desk c.args.desk.now c.say_between.new.desk c.say_between.result
    c.peek_rows.ensures.reads c.in-Ok.ensures.cause.calm c.say_between.ensures.read c.say_between.ensures.ends

pub returns-in-Err-clause-says : goal.returns-in-Err-clause-says
returns-in-Err-clause-says g c = λ f s left.
    let t = c.tell_other_closed.ensures in
    inl (other_closed g.E.Desk.tells c.in-Err.fault c.tell_other_closed.result (g.E.Desk.seen c.args.other.now) (g.D.Desk.seen c.args.desk.now) (g.D.Desk.seen c.tell_other_closed.new.desk)
    c.in-Err.ensures.fault t.told t.others.replies)

pub returns-in-Err-clause-ends : goal.returns-in-Err-clause-ends
returns-in-Err-clause-ends g c =
    let t = c.tell_other_closed.ensures in
    closed_beside (Cored × Format × List Op) g.D.Desk.seen g.D.Desk.stopped g.E.Desk.seen g.E.Desk.stopped c.in-Err.fault c.args.other.now c.peek_rows.new.desk c.args.desk.now c.tell_other_closed.new.desk c.tell_other_closed.result
    c.in-Err.ensures.cause c.peek_rows.ensures.reads t.told t.others t.stops

pub say_between-requires-clause-right : goal.say_between-requires-clause-right
say_between-requires-clause-right g c =
    IfOk-weaker c.rows_opened-right.result _ _ (λ rows are. (c.in-Ok.read.1, c.in-Ok.read.0.state, are)) c.rows_opened-right.ensures.rows
