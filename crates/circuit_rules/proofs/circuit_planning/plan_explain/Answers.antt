use Rattle.std.proofs.Common.{Err, sym, subst}
use Rattle.ctrl_model.specs.CircuitCommands.{explain}
use Rattle.circuit_rules.specs.Views.{asked}
use Rattle.circuit_rules.specs.Explanations.{Explains}
use Rattle.circuit_rules.specs.PlannedCircuits.{Answers, network_in}
use Rattle.circuit_rules.proofs.CircuitPlanLaws.{asked_so, explains, denied_planned}
use Rattle.circuit_rules.proofs.circuit_planning.plan_explain.Goals as goal

pub returns-in-Err-Denied : goal.returns-in-Err-Denied
returns-in-Err-Denied c =
    let p = c.args.parts.now in
    let ask = asked c.in_ok-ask.ask in
    asked_so explain ask c.args.request.now p c.refused.result c.in_ok-ask.ensures
    (subst (Answers (explain ask) p) (sym c.refused.ensures)
    (denied_planned p ask c.in-Err-Denied.denial (explains ask) (subst (λ f. Explains (network_in p) ask (Err f)) c.in-Err-Denied.field-0-is c.in-Err-Denied.ensures)))
