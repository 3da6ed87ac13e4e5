use Rattle.std.proofs.Common.{ap, ◌∙◌}
use Rattle.std.proofs.lemmas.Result.{IfOk-weaker}
use Rattle.reply_codec.specs.ReplyLimits.{keeps_limits}
use Rattle.ctrl_serve.proofs.CarriedFits.{carried_fits}
use Rattle.ctrl_serve.proofs.controller.carry_permitted.Goals as goal

pub returns-clause-limits : goal.returns-clause-limits
returns-clause-limits c = IfOk-weaker c.answer.result _ _
    (λ r h. ap (λ q. keeps_limits q.0) h ∙ carried_fits c.args.command.now c.args.core.now.state c.answer.ensures.valid)
    c.answer.ensures.answered
