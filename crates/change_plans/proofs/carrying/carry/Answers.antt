use Rattle.std.proofs.lemmas.Result.{IfOk-weaker}
use Rattle.change_plans.proofs.CarriedLaws.{answered_planned}
use Rattle.change_plans.proofs.carrying.carry.Goals as goal

pub returns-clause-answered : goal.returns-clause-answered
returns-clause-answered c =
    IfOk-weaker c.advance.result _ _
    (λ r h. answered_planned c.in_ok-planned.planned c.args.command.now c.args.core.now.state (r, c.advance.new.core.state) h c.in_ok-planned.ensures.reply c.in_ok-planned.ensures.leads)
    c.advance.ensures.answered
