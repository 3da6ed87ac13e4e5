use Rattle.std.proofs.Common.{Bool, inl, inr, subst}
use Rattle.folder_findings.specs.FindingLines.{is_well, lines_of}
use Rattle.folder_findings.specs.declared.causes.Verdict.{Verdict}
use Rattle.zitilook.specs.Findings.{SaysFindings}
use Rattle.zitilook.proofs.FindingLaws.{closed_tells, examines_from, findings_from, may_close}
use Rattle.zitilook.proofs.FolderLaws.{read_ends}
use Rattle.zitilook.proofs.OpenedLaws.{closed_ends}
use Rattle.zitilook.proofs.examining.run_judged.Goals as goal

pub returns-in-Ok-clause-examines : goal.returns-in-Ok-clause-examines
returns-in-Ok-clause-examines g c =
    let o = c.judge.ensures.reads.others in
    let verdict = c.in-Ok.verdict in
    let text = lines_of c.args.files verdict in
    let says = subst (λ (b : Bool). SaysFindings b text (g.D.Desk.seen c.judge.new.desk) (g.D.Desk.seen c.say_lines.new.desk) c.say_lines.result)
    c.is_well.ensures (c.say_lines.ensures.says text c.lines-text.ensures) in
    inr (record {
      files = c.args.files;
      verdict = verdict;
      found = c.requires;
      judged = c.in-Ok.ensures.verdict;
      says = findings_from (is_well c.args.files verdict) text c.say_lines.result (g.D.Desk.seen c.args.desk.now) (g.D.Desk.seen c.judge.new.desk) (g.D.Desk.seen c.say_lines.new.desk)
          o.replies o.notes o.failed_notes says;
    })

pub returns-in-Ok-clause-ends : goal.returns-in-Ok-clause-ends
returns-in-Ok-clause-ends g c =
    read_ends g.D.Desk.seen g.D.Desk.stopped c.args.desk.now c.judge.new.desk c.say_lines.new.desk c.say_lines.result
    c.judge.ensures.reads c.in-Ok.ensures.cause.calm c.say_lines.ensures.ends

pub tell_closed-requires : goal.tell_closed-requires
tell_closed-requires g c = may_close c.in-Err.fault c.in-Err.ensures.fault

pub returns-in-Err-clause-examines : goal.returns-in-Err-clause-examines
returns-in-Err-clause-examines g c =
    let o = c.judge.ensures.reads.others in
    let t = c.tell_closed.ensures in
    examines_from g.D.Desk.tells c.tell_closed.result (g.D.Desk.seen c.args.desk.now) (g.D.Desk.seen c.judge.new.desk) (g.D.Desk.seen c.tell_closed.new.desk)
    o.replies o.notes o.failed_notes c.judge.ensures.reads.parts
    (inl (closed_tells c.in-Err.fault c.tell_closed.result (g.D.Desk.seen c.judge.new.desk) (g.D.Desk.seen c.tell_closed.new.desk) c.in-Err.ensures.fault t.told t.others.replies))

pub returns-in-Err-clause-ends : goal.returns-in-Err-clause-ends
returns-in-Err-clause-ends g c =
    let t = c.tell_closed.ensures in
    closed_ends Verdict g.D.Desk.seen g.D.Desk.stopped c.in-Err.fault c.tell_closed.result c.args.desk.now c.judge.new.desk c.tell_closed.new.desk
    c.in-Err.ensures.cause c.judge.ensures.reads t.told t.others t.stops
