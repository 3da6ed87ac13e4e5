use Rattle.std.proofs.lemmas.Result.{IfOk-weaker}
use Rattle.grant_steps.proofs.PolicySteps.{rule_leads}
use Rattle.grant_steps.proofs.counting.policy_change_steps.Goals as goal

pub returns : goal.returns
returns c = IfOk-weaker c.steps_by.result _ _ (λ steps is. rule_leads c.args.change.now c.args.known.now c.args.kept.now steps is) c.steps_by.ensures
