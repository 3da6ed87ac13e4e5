use Rattle.std.proofs.Common.{inl, inr}
use Rattle.zitilook.specs.LookedTexts.{asked_name, text_of, told_under}
use Rattle.zitilook.proofs.FolderLaws.{read_ends}
use Rattle.zitilook.proofs.OpenedLaws.{closed_finds}
use Rattle.zitilook.proofs.SaidLaws.{tells_from}
use Rattle.zitilook.proofs.running.run_look.Goals as goal

pub returns-in-Ok-clause-looks : goal.returns-in-Ok-clause-looks
returns-in-Ok-clause-looks g c =
    let s = c.in-Ok.read.0.state in
    let o = c.peek_rows.ensures.reads.others in
    let text = text_of c.args.look.now s in
    inr (record {
      state = s;
      valid = c.in-Ok.ensures.valid;
      opens = c.in-Ok.ensures.opens;
      says = tells_from (told_under (asked_name c.args.look.now) text) c.tell_made.result (g.D.Desk.seen c.args.desk.now) (g.D.Desk.seen c.peek_rows.new.desk) (g.D.Desk.seen c.tell_made.new.desk)
          o.replies o.notes o.failed_notes (c.tell_made.ensures.tells text c.text_of-text.ensures);
    })

pub returns-in-Ok-clause-ends : goal.returns-in-Ok-clause-ends
returns-in-Ok-clause-ends g c =
    read_ends g.D.Desk.seen g.D.Desk.stopped c.args.desk.now c.peek_rows.new.desk c.tell_made.new.desk c.tell_made.result
    c.peek_rows.ensures.reads c.in-Ok.ensures.cause.calm c.tell_made.ensures.ends

pub returns-in-Err-clause-looks : goal.returns-in-Err-clause-looks
returns-in-Err-clause-looks g c =
    let o = c.peek_rows.ensures.reads.others in
    let t = c.tell_closed.ensures in
    inl (closed_finds g.D.Desk.tells c.in-Err.fault c.tell_closed.result (g.D.Desk.seen c.args.desk.now) (g.D.Desk.seen c.peek_rows.new.desk) (g.D.Desk.seen c.tell_closed.new.desk)
    c.in-Err.ensures.fault t.told o.replies t.others.replies o.notes o.failed_notes)
