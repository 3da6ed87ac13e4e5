use Rattle.std.proofs.Common.{sym, subst}
use Rattle.ctrl_model.specs.Controller.{carry}
use Rattle.circuit_rules.specs.PlannedCircuits.{Answers}
use Rattle.circuit_rules.proofs.circuit_planning.plan_claim.Goals as goal

pub returns : goal.returns
returns c = subst (λ command. Answers (carry command) c.args.parts.now c.in_ok-plan.plan) (sym c.in-VerifyRoute.is) c.in_ok-plan.ensures
