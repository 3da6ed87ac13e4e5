use Rattle.std.proofs.Common.{List, inl, inr}
use Rattle.std.proofs.lemmas.Result.{IfOk-weaker}
use Rattle.ctrl_model.specs.declared.formats.Format.{Format}
use Rattle.ctrl_core.specs.KeptState.{Cored}
use Rattle.row_codec.specs.declared.changes.Op.{Op}
use Rattle.zitilook.proofs.ComparingLaws.{alone_beside, compared_from, read_beside}
use Rattle.zitilook.proofs.OpenedLaws.{closed_ends, closed_finds}
use Rattle.zitilook.proofs.comparing.run_diff.Goals as goal

pub returns-in-Ok : goal.returns-in-Ok
returns-in-Ok g c =
    let o = c.peek_rows.ensures.reads.others in
    let s = c.in-Ok.read.0.state in
    record {
      finds = inr (record {
        state = s;
        valid = c.in-Ok.ensures.valid;
        opens = c.in-Ok.ensures.opens;
        compares = compared_from s g.E.Desk.tells c.compare_read.result (g.E.Desk.seen c.args.other.now) (g.D.Desk.seen c.args.desk.now) (g.D.Desk.seen c.peek_rows.new.desk) (g.D.Desk.seen c.compare_read.new.desk)
            o.replies o.notes o.failed_notes (c.compare_read.ensures.says c.in-Ok.read.1 s c.rows_opened-left.ensures.rows);
      });
      ends = read_beside g.D.Desk.seen g.D.Desk.stopped g.E.Desk.seen g.E.Desk.stopped c.args.other.now c.compare_read.new.other c.args.desk.now c.peek_rows.new.desk c.compare_read.new.desk c.compare_read.result
          c.peek_rows.ensures.reads c.in-Ok.ensures.cause.calm c.compare_read.ensures.ends;
    }

pub compare_read-requires : goal.compare_read-requires
compare_read-requires g c = IfOk-weaker c.rows_opened-left.result _ _ (λ rows are. (c.in-Ok.read.1, c.in-Ok.read.0.state, are)) c.rows_opened-left.ensures.rows

pub returns-in-Err : goal.returns-in-Err
returns-in-Err g c =
    let o = c.peek_rows.ensures.reads.others in
    let t = c.tell_closed.ensures in
    record {
      finds = inl (closed_finds g.D.Desk.tells c.in-Err.fault c.tell_closed.result (g.D.Desk.seen c.args.desk.now) (g.D.Desk.seen c.peek_rows.new.desk) (g.D.Desk.seen c.tell_closed.new.desk)
          c.in-Err.ensures.fault t.told o.replies t.others.replies o.notes o.failed_notes);
      ends = alone_beside g.D.Desk.seen g.D.Desk.stopped g.E.Desk.seen g.E.Desk.stopped c.args.other.now c.args.desk.now c.tell_closed.new.desk c.tell_closed.result
          (closed_ends (Cored × Format × List Op) g.D.Desk.seen g.D.Desk.stopped c.in-Err.fault c.tell_closed.result c.args.desk.now c.peek_rows.new.desk c.tell_closed.new.desk
          c.in-Err.ensures.cause c.peek_rows.ensures.reads t.told t.others t.stops);
    }
