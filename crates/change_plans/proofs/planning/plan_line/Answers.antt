use Rattle.std.proofs.lemmas.Result.{IfOk-weaker}
use Rattle.change_plans.proofs.PlanLaws.{plans}
use Rattle.change_plans.proofs.planning.plan_line.Goals as goal

pub returns-clause-answered : goal.returns-clause-answered
returns-clause-answered c =
    IfOk-weaker c.tell_refusal-told.result _ _
    (λ u told. plans c.args.number c.args.line.now c.args.core.now.state c.answer_line.new.core.state c.args.out.now.items c.tell_refusal-told.new.out.items c.in_ok-reply.reply
    c.in_ok-reply.ensures.answered told)
    c.tell_refusal-told.ensures
