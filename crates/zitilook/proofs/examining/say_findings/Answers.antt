use Rattle.zitilook.proofs.FindingLaws.{findings_cut, findings_end, findings_whole}
use Rattle.zitilook.proofs.FolderLaws.{unsaid_ends}
use Rattle.zitilook.proofs.examining.say_findings.Goals as goal

pub returns-in-Ok-clause-says : goal.returns-in-Ok-clause-says
returns-in-Ok-clause-says g c =
    let o = c.say.ensures.others in
    let e = c.end_with.ensures in
    findings_whole c.args.well c.args.text.now c.found_status.result c.end_with.result (g.D.Desk.seen c.args.desk.now) (g.D.Desk.seen c.say.new.self) (g.D.Desk.seen c.end_with.new.desk)
    c.found_status.ensures e.status c.in-Ok.ensures.taken e.others.replies o.notes o.failed_notes e.noted

pub returns-in-Ok-clause-ends : goal.returns-in-Ok-clause-ends
returns-in-Ok-clause-ends g c =
    let e = c.end_with.ensures in
    findings_end g.D.Desk.seen g.D.Desk.stopped c.args.desk.now c.say.new.self c.end_with.new.desk c.args.well c.found_status.result c.end_with.result c.args.text.now
    c.found_status.ensures e.status c.say.ensures.others c.say.ensures.stops c.in-Ok.ensures.cause.calm e.others e.stops

pub returns-in-Err-clause-says : goal.returns-in-Err-clause-says
returns-in-Err-clause-says g c =
    let o = c.say.ensures.others in
    let e = c.end_with-in-Err.ensures in
    findings_cut c.args.well c.args.text.now c.end_with-in-Err.result (g.D.Desk.seen c.args.desk.now) (g.D.Desk.seen c.say.new.self) (g.D.Desk.seen c.end_with-in-Err.new.desk)
    e.status c.in-Err.ensures.taken e.others.replies o.notes o.failed_notes e.noted

pub returns-in-Err-clause-ends : goal.returns-in-Err-clause-ends
returns-in-Err-clause-ends g c =
    let e = c.end_with-in-Err.ensures in
    unsaid_ends g.D.Desk.seen g.D.Desk.stopped c.args.desk.now c.say.new.self c.end_with-in-Err.new.desk c.end_with-in-Err.result c.args.text.now
    e.status c.say.ensures.others c.say.ensures.stops c.in-Err.ensures.cause.failed e.others e.stops
