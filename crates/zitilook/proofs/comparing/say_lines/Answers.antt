use Rattle.std.proofs.Common.{◌≡◌, sym, ◌∙◌}
use Rattle.zitilook.specs.declared.status.Status.TheVariants.{Done, Differs, WriteFault, DiskFault}
use Rattle.zitilook.proofs.ComparingLaws.{lines_cut, lines_none, lines_whole}
use Rattle.zitilook.proofs.FolderLaws.{noted_ends, said_ends, unsaid_ends}
use Rattle.zitilook.proofs.SaidLaws.{no_text, some_text}
use Rattle.zitilook.proofs.comparing.say_lines.Goals as goal

pub returns-then-is_empty-clause-says : goal.returns-then-is_empty-clause-says
returns-then-is_empty-clause-says g c =
    let e = c.end_with.ensures in
    lines_none c.args.lines.now c.end_with.result (g.D.Desk.seen c.args.desk.now) (g.D.Desk.seen c.end_with.new.desk) e.status
    (no_text c.args.lines.now (sym c.is_empty.ensures ∙ c.if-is_empty.true)) e.others.replies e.noted

pub returns-then-is_empty-clause-ends : goal.returns-then-is_empty-clause-ends
returns-then-is_empty-clause-ends g c =
    let e = c.end_with.ensures in
    let is : c.end_with.result ≡ Done = e.status in
    noted_ends g.D.Desk.seen g.D.Desk.stopped c.args.desk.now c.end_with.new.desk c.end_with.result
    (λ (w : c.end_with.result ≡ WriteFault). absurd cc) (λ (d : c.end_with.result ≡ DiskFault). absurd cc) e.others e.stops

pub returns-in-Ok-clause-says : goal.returns-in-Ok-clause-says
returns-in-Ok-clause-says g c =
    let o = c.say.ensures.others in
    let e = c.end_with-in-Ok.ensures in
    lines_whole c.args.lines.now c.end_with-in-Ok.result (g.D.Desk.seen c.args.desk.now) (g.D.Desk.seen c.say.new.self) (g.D.Desk.seen c.end_with-in-Ok.new.desk) e.status
    (some_text c.args.lines.now (sym c.is_empty.ensures ∙ c.if-is_empty.false)) c.in-Ok.ensures.taken e.others.replies o.notes o.failed_notes e.noted

pub returns-in-Ok-clause-ends : goal.returns-in-Ok-clause-ends
returns-in-Ok-clause-ends g c =
    let e = c.end_with-in-Ok.ensures in
    let is : c.end_with-in-Ok.result ≡ Differs = e.status in
    said_ends g.D.Desk.seen g.D.Desk.stopped c.args.desk.now c.say.new.self c.end_with-in-Ok.new.desk c.end_with-in-Ok.result c.args.lines.now
    (λ (w : c.end_with-in-Ok.result ≡ WriteFault). absurd cc) (λ (d : c.end_with-in-Ok.result ≡ DiskFault). absurd cc)
    c.say.ensures.others c.say.ensures.stops c.in-Ok.ensures.cause.calm e.others e.stops

pub returns-in-Err-clause-says : goal.returns-in-Err-clause-says
returns-in-Err-clause-says g c =
    let o = c.say.ensures.others in
    let e = c.end_with-in-Err.ensures in
    lines_cut c.args.lines.now c.end_with-in-Err.result (g.D.Desk.seen c.args.desk.now) (g.D.Desk.seen c.say.new.self) (g.D.Desk.seen c.end_with-in-Err.new.desk) e.status
    (some_text c.args.lines.now (sym c.is_empty.ensures ∙ c.if-is_empty.false)) c.in-Err.ensures.taken e.others.replies o.notes o.failed_notes e.noted

pub returns-in-Err-clause-ends : goal.returns-in-Err-clause-ends
returns-in-Err-clause-ends g c =
    let e = c.end_with-in-Err.ensures in
    unsaid_ends g.D.Desk.seen g.D.Desk.stopped c.args.desk.now c.say.new.self c.end_with-in-Err.new.desk c.end_with-in-Err.result c.args.lines.now
    e.status c.say.ensures.others c.say.ensures.stops c.in-Err.ensures.cause.failed e.others e.stops
