use Rattle.std.proofs.Common.{ap, ◌∙◌}
use Rattle.std.proofs.lemmas.Result.{IfOk-weaker}
use Rattle.ctrl_model.specs.declared.replies.Reply.{Reply}
use Rattle.ctrl_model.specs.State.{State}
use Rattle.ctrl_serve.specs.FrameAnswer.{alone, no_bounds}
use Rattle.ctrl_serve.proofs.StopLaws.{carried_answer}
use Rattle.ctrl_serve.proofs.controller.answer_alone.Goals as goal

pub returns-in-Ok-clause-ok : goal.returns-in-Ok-clause-ok
returns-in-Ok-clause-ok c =
    IfOk-weaker c.carry_alone-answered.result _ _
    (λ r h. ap (λ (p : Reply × State). (p.0, alone p.1)) h ∙ carried_answer no_bounds c.args.who.now c.args.frame.now c.as_slice.result.now (alone c.args.core.now.state) c.in-Ok.command c.as_slice.ensures c.in-Ok.ensures.command)
    c.carry_alone-answered.ensures.ok
