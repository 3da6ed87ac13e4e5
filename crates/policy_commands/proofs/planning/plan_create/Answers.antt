use Rattle.std.proofs.Common.{true, sym, ◌∙◌, subst}
use Rattle.entity_store.proofs.KeptLaws.{on_err}
use Rattle.policy_commands.specs.PlannedPolicies.{IsJudged, answer_create, refusal_to_put}
use Rattle.policy_commands.specs.PolicyPlans.{TakesMemory}
use Rattle.policy_commands.proofs.PolicyPlans.{create_refused, create_put, create_takes}
use Rattle.policy_commands.proofs.planning.plan_create.Goals as goal

pub returns-in_err-policy-clause-memory : goal.returns-in_err-policy-clause-memory
returns-in_err-policy-clause-memory c = on_err _ (TakesMemory (answer_create c.args.kind c.args.policy.now) c.args.known.now.entities.now c.args.known.now.policies.now) (λ s valid.
    create_takes c.args.kind c.args.policy.now (record { entities = c.args.known.now.entities.now; policies = c.args.known.now.policies.now; rest = s })
    c.requires.kind c.requires.short c.requires.held c.in_err-policy.ensures.memory)

pub returns-in-Ok-clause-plan : goal.returns-in-Ok-clause-plan
returns-in-Ok-clause-plan c = λ s valid held.
    rw (c.changed.ensures)
    (create_put c.args.kind c.args.policy.now c.in-Ok.policy c.of-none.result (record { entities = c.args.known.now.entities.now; policies = c.args.known.now.policies.now; rest = s })
    c.next-number.result c.requires.kind c.requires.short held (c.of-none.ensures ∙ c.new.ensures.items)
    (subst (IsJudged c.args.policy.now (refusal_to_put c.args.kind c.args.policy.now true c.of-none.result c.args.known.now.policies.now c.args.known.now.entities.now)) c.in-Ok.is c.in_ok-policy.ensures.judged)
    c.next-number.ensures.next)

pub returns-clause-plan : goal.returns-clause-plan
returns-clause-plan c = λ s valid held.
    rw (c.refused.ensures)
    (create_refused c.args.kind c.args.policy.now c.of-none.result (record { entities = c.args.known.now.entities.now; policies = c.args.known.now.policies.now; rest = s })
    c.in-Err.refusal c.requires.kind c.requires.short held (c.of-none.ensures ∙ c.new.ensures.items)
    (sym (subst (IsJudged c.args.policy.now (refusal_to_put c.args.kind c.args.policy.now true c.of-none.result c.args.known.now.policies.now c.args.known.now.entities.now)) c.in-Err.is c.in_ok-policy.ensures.judged)))
