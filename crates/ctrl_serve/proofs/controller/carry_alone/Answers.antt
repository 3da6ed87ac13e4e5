use Rattle.std.proofs.Common.{◌∙◌, sym}
use Rattle.std.proofs.lemmas.Result.{IfOk-weaker}
use Rattle.ctrl_serve.proofs.CarriedFits.{answer_refused, answer_carried}
use Rattle.ctrl_serve.proofs.controller.carry_alone.Goals as goal

pub returns-then-permitted-clause-ok : goal.returns-then-permitted-clause-ok
returns-then-permitted-clause-ok c =
    IfOk-weaker c.carry_permitted.result _ _ (λ r h. h ∙ answer_carried c.args.who.now c.args.command.now c.args.core.now.state (sym c.permitted.ensures ∙ c.if-permitted.true)) c.carry_permitted.ensures.ok

pub returns-else-permitted-clause-ok : goal.returns-else-permitted-clause-ok
returns-else-permitted-clause-ok c = answer_refused c.args.who.now c.args.command.now c.args.core.now.state (sym c.permitted.ensures ∙ c.if-permitted.false)
