use Rattle.zitilook.proofs.PlanningLaws.{none_refused, some_refused}
use Rattle.zitilook.proofs.planning.status_of.Goals as goal

pub returns-then-plan-clause-decides : goal.returns-then-plan-clause-decides
returns-then-plan-clause-decides c = λ s input is some. some_refused s input c.args.plan.now is c.if-plan.true

pub returns-else-plan-clause-decides : goal.returns-else-plan-clause-decides
returns-else-plan-clause-decides c = λ s input is some. (some, none_refused s input c.args.plan.now is c.if-plan.false)
