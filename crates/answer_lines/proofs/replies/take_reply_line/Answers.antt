use Rattle.std.proofs.Common.{sym, ◌∙◌}
use Rattle.answer_lines.proofs.ReplyLaws.{reads_passed, reads_reply, reads_none}
use Rattle.answer_lines.proofs.replies.take_reply_line.Goals as goal

pub returns-then-passes : goal.returns-then-passes
returns-then-passes c = reads_passed c.args.line.now c.args.told.now.items (sym c.passes.ensures ∙ c.if-passes.true)

pub returns-in_ok-push_back-in-Some : goal.returns-in_ok-push_back-in-Some
returns-in_ok-push_back-in-Some c =
    reads_reply c.args.line.now c.args.told.now.items c.push_back.new.self.items c.in-Some.reply (sym c.passes.ensures ∙ c.if-passes.false)
    (sym c.in_ok-reply.ensures ∙ c.in-Some.is) c.in_ok-push_back-in-Some.ensures.items

pub returns-in-None : goal.returns-in-None
returns-in-None c =
    reads_none c.args.line.now c.args.told.now.items (sym c.passes.ensures ∙ c.if-passes.false) (sym c.in_ok-reply.ensures ∙ c.in-None.is)
