use Rattle.std.proofs.Common.{None, Some, sym, subst}
use Rattle.std.proofs.lemmas.Result.{IfOk-weaker}
use Rattle.policy_store.specs.declared.changes.PolicyChange.{PolicyChange}
use Rattle.policy_store.specs.PolicyTables.{no_policies}
use Rattle.grant_steps.specs.GrantChanges.{granting_state, StepsOfPolicy}
use Rattle.grant_steps.specs.PolicySteps.{StepsOfRule}
use Rattle.grant_steps.proofs.counting.steps_by.Goals as goal

pub returns-in-Replace : goal.returns-in-Replace
returns-in-Replace c = IfOk-weaker c.policy_steps-in-Replace.result _ _ (λ steps is.
    subst (λ (e : PolicyChange). StepsOfRule e c.args.known.now c.args.kept.now steps) (sym c.in-Replace.is)
    (subst (λ o. StepsOfPolicy c.in-Replace.kind o (Some c.in-Replace.policy) (granting_state c.args.known.now no_policies) steps) c.get-replaced.ensures is)) c.policy_steps-in-Replace.ensures

pub returns-in-Remove : goal.returns-in-Remove
returns-in-Remove c = IfOk-weaker c.policy_steps-in-Remove.result _ _ (λ steps is.
    subst (λ (e : PolicyChange). StepsOfRule e c.args.known.now c.args.kept.now steps) (sym c.in-Remove.is)
    (subst (λ o. StepsOfPolicy c.in-Remove.kind o None (granting_state c.args.known.now no_policies) steps) c.get-removed.ensures is)) c.policy_steps-in-Remove.ensures
