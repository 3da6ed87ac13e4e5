use Rattle.std.proofs.Common.{◌++◌, ◌∙◌, ap}
use Rattle.std.proofs.lemmas.Bool.{false≢true}
use Rattle.channel_frame.specs.FrameSpelling.{spelling}
use Rattle.ctrl_model.specs.declared.replies.Reply.{Reply}
use Rattle.ctrl_keep.specs.KeptMachine.{Machine}
use Rattle.reply_codec.specs.ReplyFrame.{reply_frame}
use Rattle.serve_loop.proofs.DeskLaws.{room_calm}
use Rattle.ctrl_serve.proofs.controller.AloneControllerAnswersFrames.answer.Goals as goal

pub returns-clause-next : goal.returns-clause-next
returns-clause-next g c = ap (λ (p : Reply × Machine). p.1) c.in_ok-answered.ensures.ok

pub returns-clause-written : goal.returns-clause-written
returns-clause-written g c = λ own.
    c.in_ok-written.ensures.ok ∙ ap (λ (p : Reply × Machine). c.args.reply.now.items ++ spelling (reply_frame c.args.sequence c.args.frame.now.sequence p.0)) c.in_ok-answered.ensures.ok

pub returns-clause-follows : goal.returns-clause-follows
returns-clause-follows g c = λ some told. absurd (false≢true some)

pub returns-clause-found : goal.returns-clause-found
returns-clause-found g c = λ some told image left. absurd (false≢true some)

pub returns-clause-stops : goal.returns-clause-stops
returns-clause-stops g c = λ some told. absurd (false≢true some)

pub returns-clause-room : goal.returns-clause-room
returns-clause-room g c = room_calm _ c.args.desk.now

pub returns-in_err-answered-clause-stops : goal.returns-in_err-answered-clause-stops
returns-in_err-answered-clause-stops g c = λ some told. absurd (false≢true some)

pub returns-in_err-answered-clause-room : goal.returns-in_err-answered-clause-room
returns-in_err-answered-clause-room g c = room_calm _ c.args.desk.now

pub returns-in_err-written-clause-stops : goal.returns-in_err-written-clause-stops
returns-in_err-written-clause-stops g c = λ some told. absurd (false≢true some)

pub returns-in_err-written-clause-room : goal.returns-in_err-written-clause-room
returns-in_err-written-clause-room g c = room_calm _ c.args.desk.now
