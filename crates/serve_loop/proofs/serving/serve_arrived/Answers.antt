use Rattle.std.proofs.Common.{ap, ◌∙◌}
use Rattle.std.proofs.lemmas.Result.{err_from_is_err_and}
use Rattle.ctrl_model.specs.declared.kinds.Who.{Who}
use Rattle.serve_loop.proofs.FollowLaws.{follows_arrived}
use Rattle.serve_loop.proofs.RunStopLaws.{arrived_stops}
use Rattle.serve_loop.proofs.TurnLaws.{arrived_taken, arrived_cut}
use Rattle.serve_loop.proofs.serving.serve_arrived.Goals as goal

pub returns-in_err-serve_frame-clause-cut : goal.returns-in_err-serve_frame-clause-cut
returns-in_err-serve_frame-clause-cut g c =
    let p = err_from_is_err_and c.from_residual.result c.from_residual.ensures.1 in
    rw p.1 (rw p.2 (arrived_cut _ c.args.form _ c.args.session c.replied.result c.args.frame.now c.args.sessions.now _ c.sender.result.now _ _ c.replied.ensures c.sender.ensures c.in_err-serve_frame.ensures.cut))

pub returns-clause-ok : goal.returns-clause-ok
returns-clause-ok g c =
    arrived_taken c.args.form _ c.args.session c.replied.result c.args.frame.now c.sender.result.now _ _ c.replied.ensures c.sender.ensures c.reply.ensures c.in_ok-serve_frame.ensures.ok

pub returns-clause-stops : goal.returns-clause-stops
returns-clause-stops g c = λ some told.
    arrived_stops c.args.form _ c.args.session c.replied.result c.args.frame.now c.args.sessions.now _ c.sender.result.now _ c.replied.ensures c.sender.ensures (c.serve_frame.ensures.stops some told)

pub returns-in_err-serve_frame-clause-stops : goal.returns-in_err-serve_frame-clause-stops
returns-in_err-serve_frame-clause-stops g c = λ some told.
    arrived_stops c.args.form _ c.args.session c.replied.result c.args.frame.now c.args.sessions.now _ c.sender.result.now _ c.replied.ensures c.sender.ensures (c.serve_frame.ensures.stops some told)

pub returns-clause-follows : goal.returns-clause-follows
returns-clause-follows g c = λ some told.
    let answerer = g.A.AnswersFrames.answers (g.A.AnswersFrames.serving c.args.answerer.now).bounds in
    let machine = (g.A.AnswersFrames.machine g.D.Desk.tells (g.D.Desk.seen c.args.desk.now).reads c.args.answerer.now) in
    let is = c.in_ok-serve_frame.ensures.ok.next ∙ ap (λ (who : Who). answerer.next who c.args.frame.now machine) c.sender.ensures in
    follows_arrived answerer c.args.session c.args.frame.now c.args.sessions.now machine _ _ _ is (c.in_ok-serve_frame.ensures.follows some told)

pub returns-clause-alone : goal.returns-clause-alone
returns-clause-alone g c = c.serve_frame.ensures.alone

pub returns-in_err-serve_frame-clause-alone : goal.returns-in_err-serve_frame-clause-alone
returns-in_err-serve_frame-clause-alone g c = c.serve_frame.ensures.alone

pub returns-in_err-serve_frame-clause-next : goal.returns-in_err-serve_frame-clause-next
returns-in_err-serve_frame-clause-next g c =
    let p = err_from_is_err_and c.from_residual.result c.from_residual.ensures.1 in
    let answerer = g.A.AnswersFrames.answers (g.A.AnswersFrames.serving c.args.answerer.now).bounds in
    let machine = (g.A.AnswersFrames.machine g.D.Desk.tells (g.D.Desk.seen c.args.desk.now).reads c.args.answerer.now) in
    rw p.1 (rw p.2 (λ is. c.in_err-serve_frame.ensures.next is ∙ ap (λ (who : Who). answerer.next who c.args.frame.now machine) c.sender.ensures))

pub returns-in_err-serve_frame-clause-unsaid : goal.returns-in_err-serve_frame-clause-unsaid
returns-in_err-serve_frame-clause-unsaid g c =
    let p = err_from_is_err_and c.from_residual.result c.from_residual.ensures.1 in
    rw p.1 (rw p.2 c.in_err-serve_frame.ensures.unsaid)
