-- The steps of counts where one policy changes. Only private functions and proofs of this crate cite this file.
use Rattle.std.specs.Prelude.{None, Some}
use Rattle.ctrl_model.specs.Numbered.{at}
use Rattle.entity_store.specs.EntityTables.{Tables}
use Rattle.policy_store.specs.declared.changes.PolicyChange.{PolicyChange}
use Rattle.policy_store.specs.declared.changes.PolicyChange.TheVariants as change
use Rattle.policy_store.specs.declared.steps.GrantSteps.{GrantSteps}
use Rattle.policy_store.specs.PolicyTables.{PolicyTables, no_policies, policies}
use Rattle.grant_steps.specs.GrantChanges.{granting_state, StepsOfPolicy}

-- The steps of the policy that a change of some policies touches, as it was and as the change says.
abbrev pub StepsOfRule : PolicyChange → Tables → PolicyTables → GrantSteps → Type 0
StepsOfRule (change.Add k p) t q steps = StepsOfPolicy k None (Some p) (granting_state t no_policies) steps
StepsOfRule (change.Replace k n p) t q steps = StepsOfPolicy k (at (policies k q) n) (Some p) (granting_state t no_policies) steps
StepsOfRule (change.Remove k n) t q steps = StepsOfPolicy k (at (policies k q) n) None (granting_state t no_policies) steps
