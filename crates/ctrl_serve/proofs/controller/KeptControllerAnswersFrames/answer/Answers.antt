use Rattle.std.proofs.Common.{◌++◌, ◌∙◌, ap, refl}
use Rattle.channel_frame.specs.FrameSpelling.{spelling}
use Rattle.ctrl_model.specs.declared.replies.Reply.{Reply}
use Rattle.ctrl_keep.specs.KeptMachine.{Machine}
use Rattle.reply_codec.specs.ReplyFrame.{reply_frame}
use Rattle.row_store.specs.declared.bounds.StoreBounds.{StoreBounds}
use Rattle.ctrl_serve.proofs.ControllerLaws.{able, reads_ready, ready_reads, unspent}
use Rattle.ctrl_serve.proofs.StopLaws.{kept_opens}
use Rattle.ctrl_serve.proofs.controller.KeptControllerAnswersFrames.answer.Goals as goal

pub answer_kept-requires-clause-able : goal.answer_kept-requires-clause-able
answer_kept-requires-clause-able g c = unspent c.args.self.now.kept.spent c.requires.able

pub answer_kept-requires-clause-holds : goal.answer_kept-requires-clause-holds
answer_kept-requires-clause-holds g c = c.requires.ready.holds

pub answer_kept-requires-clause-stands : goal.answer_kept-requires-clause-stands
answer_kept-requires-clause-stands g c = ready_reads c.args.self.now.kept g.D.Desk.tells _ _ c.requires.ready

pub returns-clause-next : goal.returns-clause-next
returns-clause-next g c = ap (λ (p : Reply × Machine). p.1) c.in_ok-answered.ensures.ok

pub returns-clause-written : goal.returns-clause-written
returns-clause-written g c = λ own.
    c.in_ok-written.ensures.ok ∙ ap (λ (p : Reply × Machine). c.args.reply.now.items ++ spelling (reply_frame c.args.sequence c.args.frame.now.sequence p.0)) c.in_ok-answered.ensures.ok

pub returns-clause-on : goal.returns-clause-on
returns-clause-on g c =
    let on = c.in_ok-answered.ensures.on in
    record { able = able _ on.0; bounds = on.1; slot = ap (λ (b : StoreBounds). b.slot) on.1; kind = refl }

pub returns-clause-follows : goal.returns-clause-follows
returns-clause-follows g c = λ some told. c.in_ok-answered.ensures.follows told

pub returns-clause-ready : goal.returns-clause-ready
returns-clause-ready g c = reads_ready c.answer_kept.new.kept g.D.Desk.tells _ _ c.in_ok-answered.ensures.holds c.in_ok-answered.ensures.stands

pub returns-clause-found : goal.returns-clause-found
returns-clause-found g c = λ some told image left. kept_opens c.answer_kept.new.kept _ _ c.in_ok-answered.ensures.holds (c.in_ok-answered.ensures.stands told) image left

pub returns-clause-stops : goal.returns-clause-stops
returns-clause-stops g c = λ some told. c.answer_kept.ensures.stops told

pub returns-in_err-answered-clause-stops : goal.returns-in_err-answered-clause-stops
returns-in_err-answered-clause-stops g c = λ some told. c.answer_kept.ensures.stops told

pub returns-in_err-written-clause-stops : goal.returns-in_err-written-clause-stops
returns-in_err-written-clause-stops g c = λ some told. c.answer_kept.ensures.stops told
