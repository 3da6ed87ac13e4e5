use Rattle.std.proofs.Common.{sym, ◌∙◌, ap}
use Rattle.ctrl_model.specs.SpelledCommands.{is_spelled}
use Rattle.policy_commands.proofs.SpelledPolicies.{short_service_sides}
use Rattle.policy_commands.proofs.planning.plan_service_policy.Goals as goal

pub plan_create-requires-clause-short : goal.plan_create-requires-clause-short
plan_create-requires-clause-short c =
    short_service_sides c.of-policy.result c.in-CreateServicePolicy.name c.in-CreateServicePolicy.relation c.in-CreateServicePolicy.semantic c.in-CreateServicePolicy.identity_roles c.in-CreateServicePolicy.service_roles
    (ap is_spelled (sym c.in-CreateServicePolicy.is) ∙ c.requires.spelled) c.of-policy.ensures

pub plan_replace-requires-clause-short : goal.plan_replace-requires-clause-short
plan_replace-requires-clause-short c =
    short_service_sides c.of-policy-in-UpdateServicePolicy.result c.in-UpdateServicePolicy.name c.in-UpdateServicePolicy.relation c.in-UpdateServicePolicy.semantic c.in-UpdateServicePolicy.identity_roles c.in-UpdateServicePolicy.service_roles
    (ap is_spelled (sym c.in-UpdateServicePolicy.is) ∙ c.requires.spelled) c.of-policy-in-UpdateServicePolicy.ensures
