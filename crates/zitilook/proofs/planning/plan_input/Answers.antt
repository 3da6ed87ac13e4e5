use Rattle.std.proofs.Common.{List, inl, inr}
use Rattle.ctrl_model.specs.declared.formats.Format.{Format}
use Rattle.ctrl_core.specs.KeptState.{Cored}
use Rattle.row_codec.specs.declared.changes.Op.{Op}
use Rattle.frame_lines.specs.TextReading.{fault_said}
use Rattle.zitilook.proofs.FolderLaws.{read_ends}
use Rattle.zitilook.proofs.OpenedLaws.{closed_ends, closed_finds}
use Rattle.zitilook.proofs.PlanningLaws.{closed_read, input_from}
use Rattle.zitilook.proofs.planning.plan_input.Goals as goal

pub returns-in-Ok-clause-finds : goal.returns-in-Ok-clause-finds
returns-in-Ok-clause-finds g c =
    let s = c.in-Ok.read.0.state in
    let o = c.peek_rows.ensures.reads.others in
    let seen = g.D.Desk.seen in
    let input = c.args.input.now in
    inr (record {
      state = s;
      valid = c.in-Ok.ensures.valid;
      opens = c.in-Ok.ensures.opens;
      tells_input = input_from (fault_said input) s input c.tell_planned.result (seen c.args.desk.now) (seen c.peek_rows.new.desk) (seen c.tell_planned.new.desk)
          o.replies o.notes o.failed_notes (c.tell_planned.ensures.says s input c.plan_opened-planned.ensures);
    })

pub returns-in-Ok-clause-ends : goal.returns-in-Ok-clause-ends
returns-in-Ok-clause-ends g c =
    read_ends g.D.Desk.seen g.D.Desk.stopped c.args.desk.now c.peek_rows.new.desk c.tell_planned.new.desk c.tell_planned.result
    c.peek_rows.ensures.reads c.in-Ok.ensures.cause.calm c.tell_planned.ensures.ends

pub returns-in-Err-clause-finds : goal.returns-in-Err-clause-finds
returns-in-Err-clause-finds g c =
    let o = c.peek_rows.ensures.reads.others in
    let t = c.tell_closed.ensures in
    inl (closed_finds g.D.Desk.tells c.in-Err.fault c.tell_closed.result (g.D.Desk.seen c.args.desk.now) (g.D.Desk.seen c.peek_rows.new.desk) (g.D.Desk.seen c.tell_closed.new.desk)
    c.in-Err.ensures.fault t.told o.replies t.others.replies o.notes o.failed_notes)

pub returns-in-Err-clause-ends : goal.returns-in-Err-clause-ends
returns-in-Err-clause-ends g c =
    let t = c.tell_closed.ensures in
    closed_ends (Cored × Format × List Op) g.D.Desk.seen g.D.Desk.stopped c.in-Err.fault c.tell_closed.result c.args.desk.now c.peek_rows.new.desk c.tell_closed.new.desk
    c.in-Err.ensures.cause c.peek_rows.ensures.reads t.told t.others t.stops

pub returns-in-Err-clause-read : goal.returns-in-Err-clause-read
returns-in-Err-clause-read g c =
    closed_read c.in-Err.fault c.tell_closed.result (g.D.Desk.seen c.peek_rows.new.desk) (g.D.Desk.seen c.tell_closed.new.desk) c.tell_closed.ensures.told
