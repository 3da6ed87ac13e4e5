use Rattle.std.proofs.Common.{subst}
use Rattle.policy_store.specs.declared.changes.PolicyChange.{PolicyChange}
use Rattle.policy_commands.specs.RuledPolicies.{LeadsOn}
use Rattle.policy_commands.proofs.applying.apply_policy_change.Goals as goal

pub add_policy-requires-clause-leads : goal.add_policy-requires-clause-leads
add_policy-requires-clause-leads c = subst (λ (d : PolicyChange). LeadsOn d c.args.entities.now c.args.policies.now) c.in-Add.is c.requires.leads

pub replace_policy-requires-clause-leads : goal.replace_policy-requires-clause-leads
replace_policy-requires-clause-leads c = subst (λ (d : PolicyChange). LeadsOn d c.args.entities.now c.args.policies.now) c.in-Replace.is c.requires.leads
