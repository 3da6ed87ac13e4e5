use Rattle.std.proofs.Common.{false, sym, ◌∙◌, ap, subst}
use Rattle.entity_store.proofs.KeptLaws.{on_err}
use Rattle.ctrl_model.specs.State.{Policy}
use Rattle.entity_store.specs.AttributeUses.{AreUsed}
use Rattle.entity_store.proofs.LookUps.{some_from_ok, none_from_err}
use Rattle.policy_store.specs.declared.policies.PolicyFault.TheVariants.{Unknown}
use Rattle.policy_store.specs.PolicyTables.{number_of}
use Rattle.policy_store.specs.PolicyRules.{found}
use Rattle.policy_store.proofs.FoundPolicies.{finds_policy}
use Rattle.policy_commands.specs.PlannedPolicies.{IsJudged, answer_replace, refusal_to_put}
use Rattle.policy_commands.specs.PolicyPlans.{TakesMemory}
use Rattle.policy_commands.proofs.PolicyPlans.{policy_used, replace_unknown, replace_refused, replace_put, replace_takes, named_needs}
use Rattle.policy_commands.proofs.planning.plan_replace.Goals as goal

pub returns-in_default-clause-plan : goal.returns-in_default-clause-plan
returns-in_default-clause-plan c = λ s valid held.
    let t = c.args.known.now.policies.now in
    rw (c.unknown_name.ensures)
    (replace_unknown c.args.kind c.args.policy.now (record { entities = c.args.known.now.entities.now; policies = t; rest = s }) c.requires.kind
    (none_from_err (number_of c.args.kind c.args.policy.now.name t) Unknown c.in_default.field-0 (c.in_default.ensures.found ∙ ap (λ (p : Policy). found c.args.kind p.name t) c.policy.view_is)))

pub unreachable-requires : goal.unreachable-requires
unreachable-requires c =
    let t = c.args.known.now.policies.now in
    finds_policy c.args.kind c.args.policy.now.name t c.in-Ok.number.0 c.in-Ok.ensures.numbers
    (some_from_ok (number_of c.args.kind c.args.policy.now.name t) Unknown c.in-Ok.number.0 (c.in-Ok.ensures.found ∙ ap (λ (p : Policy). found c.args.kind p.name t) c.policy.view_is)) c.in_default-get.ensures

pub returns-in_err-gone-clause-memory : goal.returns-in_err-gone-clause-memory
returns-in_err-gone-clause-memory c = on_err _ (TakesMemory (answer_replace c.args.kind c.args.policy.now) c.args.known.now.entities.now c.args.known.now.policies.now) (λ s valid.
    let t = c.args.known.now.policies.now in
    let named = (some_from_ok (number_of c.args.kind c.args.policy.now.name t) Unknown c.in-Ok.number.0 (c.in-Ok.ensures.found ∙ ap (λ (p : Policy). found c.args.kind p.name t) c.policy.view_is)) in
    replace_takes c.args.kind c.in-Ok.number.0 c.args.policy.now c.in-Some.replaced.now (record { entities = c.args.known.now.entities.now; policies = t; rest = s })
    c.requires.kind c.requires.short c.requires.held c.in-Ok.ensures.numbers named c.in-Some.ensures
    (named_needs c.args.kind c.in-Ok.number.0 c.args.policy.now t c.args.known.now.entities.now named))

pub policy_to_put-requires-clause-used : goal.policy_to_put-requires-clause-used
policy_to_put-requires-clause-used c =
    subst (AreUsed c.args.known.now.entities.now) (sym c.in_ok-gone.ensures)
    (policy_used c.args.kind c.in-Ok.number.0 c.args.known.now.entities.now c.args.known.now.policies.now c.in-Some.replaced.now c.requires.kind c.requires.held c.in-Ok.ensures.numbers c.in-Some.ensures)

pub returns-in_err-policy-clause-memory : goal.returns-in_err-policy-clause-memory
returns-in_err-policy-clause-memory c = on_err _ (TakesMemory (answer_replace c.args.kind c.args.policy.now) c.args.known.now.entities.now c.args.known.now.policies.now) (λ s valid.
    let t = c.args.known.now.policies.now in
    replace_takes c.args.kind c.in-Ok.number.0 c.args.policy.now c.in-Some.replaced.now (record { entities = c.args.known.now.entities.now; policies = t; rest = s })
    c.requires.kind c.requires.short c.requires.held c.in-Ok.ensures.numbers (some_from_ok (number_of c.args.kind c.args.policy.now.name t) Unknown c.in-Ok.number.0 (c.in-Ok.ensures.found ∙ ap (λ (p : Policy). found c.args.kind p.name t) c.policy.view_is)) c.in-Some.ensures c.in_err-policy.ensures.memory)

pub returns-in-Ok-2-clause-plan : goal.returns-in-Ok-2-clause-plan
returns-in-Ok-2-clause-plan c = λ s valid held.
    let t = c.args.known.now.policies.now in
    rw (c.changed.ensures)
    (replace_put c.args.kind c.in-Ok.number.0 c.args.policy.now c.in-Ok-2.policy c.in-Some.replaced.now c.in_ok-gone.gone (record { entities = c.args.known.now.entities.now; policies = t; rest = s })
    c.requires.kind c.requires.short held c.in-Ok.ensures.numbers (some_from_ok (number_of c.args.kind c.args.policy.now.name t) Unknown c.in-Ok.number.0 (c.in-Ok.ensures.found ∙ ap (λ (p : Policy). found c.args.kind p.name t) c.policy.view_is)) c.in-Some.ensures c.in_ok-gone.ensures
    (subst (IsJudged c.args.policy.now (refusal_to_put c.args.kind c.args.policy.now false c.in_ok-gone.gone t c.args.known.now.entities.now)) c.in-Ok-2.is c.in_ok-policy.ensures.judged))

pub returns-clause-plan : goal.returns-clause-plan
returns-clause-plan c = λ s valid held.
    let t = c.args.known.now.policies.now in
    rw (c.refused.ensures)
    (replace_refused c.args.kind c.in-Ok.number.0 c.args.policy.now c.in-Some.replaced.now c.in_ok-gone.gone (record { entities = c.args.known.now.entities.now; policies = t; rest = s })
    c.in-Err.refusal c.requires.kind c.requires.short held c.in-Ok.ensures.numbers (some_from_ok (number_of c.args.kind c.args.policy.now.name t) Unknown c.in-Ok.number.0 (c.in-Ok.ensures.found ∙ ap (λ (p : Policy). found c.args.kind p.name t) c.policy.view_is)) c.in-Some.ensures c.in_ok-gone.ensures
    (sym (subst (IsJudged c.args.policy.now (refusal_to_put c.args.kind c.args.policy.now false c.in_ok-gone.gone t c.args.known.now.entities.now)) c.in-Err.is c.in_ok-policy.ensures.judged)))
