use Rattle.std.proofs.Common.{◌≡◌}
use Rattle.zitilook.specs.declared.status.Status.TheVariants.{Done, WriteFault, DiskFault}
use Rattle.zitilook.proofs.FolderLaws.{said_ends, unsaid_ends}
use Rattle.zitilook.proofs.SaidLaws.{text_whole, text_cut}
use Rattle.zitilook.proofs.running.say_text.Goals as goal

pub returns-in-Ok-clause-says : goal.returns-in-Ok-clause-says
returns-in-Ok-clause-says g c =
    let o = c.say.ensures.others in
    let e = c.end_with.ensures in
    text_whole c.args.text.now c.end_with.result (g.D.Desk.seen c.args.desk.now) (g.D.Desk.seen c.say.new.self) (g.D.Desk.seen c.end_with.new.desk)
    e.status c.in-Ok.ensures.taken e.others.replies o.notes o.failed_notes e.noted

pub returns-in-Ok-clause-ends : goal.returns-in-Ok-clause-ends
returns-in-Ok-clause-ends g c =
    let e = c.end_with.ensures in
    let is : c.end_with.result ≡ Done = e.status in
    said_ends g.D.Desk.seen g.D.Desk.stopped c.args.desk.now c.say.new.self c.end_with.new.desk c.end_with.result c.args.text.now
    (λ (w : c.end_with.result ≡ WriteFault). absurd cc) (λ (d : c.end_with.result ≡ DiskFault). absurd cc) c.say.ensures.others c.say.ensures.stops c.in-Ok.ensures.cause.calm e.others e.stops

pub returns-in-Err-clause-says : goal.returns-in-Err-clause-says
returns-in-Err-clause-says g c =
    let o = c.say.ensures.others in
    let e = c.end_with-in-Err.ensures in
    text_cut c.args.text.now c.end_with-in-Err.result (g.D.Desk.seen c.args.desk.now) (g.D.Desk.seen c.say.new.self) (g.D.Desk.seen c.end_with-in-Err.new.desk)
    e.status c.in-Err.ensures.taken e.others.replies o.notes o.failed_notes e.noted

pub returns-in-Err-clause-ends : goal.returns-in-Err-clause-ends
returns-in-Err-clause-ends g c =
    let e = c.end_with-in-Err.ensures in
    unsaid_ends g.D.Desk.seen g.D.Desk.stopped c.args.desk.now c.say.new.self c.end_with-in-Err.new.desk c.end_with-in-Err.result c.args.text.now
    e.status c.say.ensures.others c.say.ensures.stops c.in-Err.ensures.cause.failed e.others e.stops
