use Rattle.serve_loop.proofs.DeskLaws.{notes_behind, says_alone}
use Rattle.ctrl_serve.proofs.LineLaws.{line_whole, line_cut}
use Rattle.ctrl_serve.proofs.loads.say_made.Goals as goal

pub returns-in-Ok-clause-others : goal.returns-in-Ok-clause-others
returns-in-Ok-clause-others g c = says_alone _ _ c.say.ensures.others c.say.ensures.stops

pub returns-in-Err-clause-others : goal.returns-in-Err-clause-others
returns-in-Err-clause-others g c = notes_behind (says_alone _ _ c.say.ensures.others c.say.ensures.stops) c.tell_cut.ensures.others c.tell_cut.ensures.stops

pub returns-in-Ok-clause-says : goal.returns-in-Ok-clause-says
returns-in-Ok-clause-says g c = line_whole c.args.line.now _ _ c.in-Ok.ensures.taken c.say.ensures.others.notes c.say.ensures.others.failed_notes

pub returns-in-Err-clause-says : goal.returns-in-Err-clause-says
returns-in-Err-clause-says g c =
    let o = c.say.ensures.others in
    let t = c.tell_cut.ensures in
    line_cut c.args.line.now (g.D.Desk.seen c.args.desk.now) (g.D.Desk.seen c.say.new.self) (g.D.Desk.seen c.tell_cut.new.desk) c.tell_cut.result
    c.in-Err.ensures.taken o.notes o.failed_notes t.status t.others.replies t.told
