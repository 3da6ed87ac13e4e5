use Rattle.std.proofs.Common.{inl, sym, ap, ◌∙◌}
use Rattle.folder_findings.specs.FoundFiles.{found_files}
use Rattle.zitilook.proofs.FindingLaws.{examines_from, unread_ends, unread_tells}
use Rattle.zitilook.proofs.FolderLaws.{read_ends}
use Rattle.zitilook.proofs.examining.run_doctor.Goals as goal

pub run_judged-requires : goal.run_judged-requires
run_judged-requires g c = λ told. c.in-Ok.ensures.found told ∙ ap found_files (sym c.find_files.ensures.reads.parts)

pub returns-in-Ok-clause-examines : goal.returns-in-Ok-clause-examines
returns-in-Ok-clause-examines g c =
    let o = c.find_files.ensures.reads.others in
    examines_from g.D.Desk.tells c.run_judged.result (g.D.Desk.seen c.args.desk.now) (g.D.Desk.seen c.find_files.new.desk) (g.D.Desk.seen c.run_judged.new.desk)
    o.replies o.notes o.failed_notes c.find_files.ensures.reads.parts c.run_judged.ensures.examines

pub returns-in-Ok-clause-ends : goal.returns-in-Ok-clause-ends
returns-in-Ok-clause-ends g c =
    read_ends g.D.Desk.seen g.D.Desk.stopped c.args.desk.now c.find_files.new.desk c.run_judged.new.desk c.run_judged.result
    c.find_files.ensures.reads c.in-Ok.ensures.cause.calm c.run_judged.ensures.ends

pub returns-in-Err-clause-examines : goal.returns-in-Err-clause-examines
returns-in-Err-clause-examines g c =
    let o = c.find_files.ensures.reads.others in
    let e = c.end_with.ensures in
    examines_from g.D.Desk.tells c.end_with.result (g.D.Desk.seen c.args.desk.now) (g.D.Desk.seen c.find_files.new.desk) (g.D.Desk.seen c.end_with.new.desk)
    o.replies o.notes o.failed_notes c.find_files.ensures.reads.parts
    (inl (unread_tells c.end_with.result (g.D.Desk.seen c.find_files.new.desk) (g.D.Desk.seen c.end_with.new.desk) e.status e.others.replies e.noted))

pub returns-in-Err-clause-ends : goal.returns-in-Err-clause-ends
returns-in-Err-clause-ends g c =
    let e = c.end_with.ensures in
    unread_ends g.D.Desk.seen g.D.Desk.stopped c.args.desk.now c.find_files.new.desk c.end_with.new.desk c.end_with.result
    e.status c.find_files.ensures.reads c.in-Err.ensures.cause.failed e.others e.stops
