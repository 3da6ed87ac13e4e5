use Rattle.std.proofs.Common.{refl}
use Rattle.std.proofs.lemmas.Result.{IfOk-weaker}
use Rattle.ctrl_model.specs.declared.kinds.Relation.TheVariants.{Dial, Bind, IdentityRouter, ServiceRouter}
use Rattle.ctrl_model.specs.Controller.{carry}
use Rattle.entity_commands.specs.EntityChanges.{CanEnter, entered}
use Rattle.policy_store.specs.PolicyChanges.{CanRule, ruled}
use Rattle.link_commands.specs.LinkChanges.{CanLink, linked}
use Rattle.terminator_commands.specs.TermChanges.{CanOffer, offered}
use Rattle.circuit_rules.specs.CircuitPlans.{CanGrant, routed}
use Rattle.core_stores.specs.declared.changes.Change.TheVariants as change
use Rattle.core_stores.specs.StoredState.{state_of}
use Rattle.ctrl_core.proofs.FoundPlans.{found_plan, no_plan}
use Rattle.ctrl_core.proofs.NetworkPlans.{planned_so}
use Rattle.ctrl_core.proofs.commands.plan_command.Goals as goal

pub drafted-requires-in-Some-2-clause-can : goal.drafted-requires-in-Some-2-clause-can
drafted-requires-in-Some-2-clause-can c =
    (planned_so entered CanEnter change.Entity (state_of c.args.stores.now) (λ x. refl) (λ x can. (can, tt)) c.in-Some-2.plan c.entity_change.result (carry c.args.command.now (state_of c.args.stores.now)) c.entity_change.ensures
    (found_plan _ _ c.in_ok-plan-2.field-0 c.in-Some-2.plan c.in-Some-2.is c.in_ok-plan-2.ensures.plan (state_of c.args.stores.now) c.requires.kept.valid c.requires.kept.held)).can

pub returns-in-Some-2 : goal.returns-in-Some-2
returns-in-Some-2 c =
    IfOk-weaker c.drafted-in-Some-2.result _ _ (λ p plans. plans (carry c.args.command.now (state_of c.args.stores.now))
    (planned_so entered CanEnter change.Entity (state_of c.args.stores.now) (λ x. refl) (λ x can. (can, tt)) c.in-Some-2.plan c.entity_change.result (carry c.args.command.now (state_of c.args.stores.now)) c.entity_change.ensures
    (found_plan _ _ c.in_ok-plan-2.field-0 c.in-Some-2.plan c.in-Some-2.is c.in_ok-plan-2.ensures.plan (state_of c.args.stores.now) c.requires.kept.valid c.requires.kept.held))) c.drafted-in-Some-2.ensures

pub drafted-requires-in-Some-3-clause-can : goal.drafted-requires-in-Some-3-clause-can
drafted-requires-in-Some-3-clause-can c =
    (planned_so ruled CanRule change.Policy (state_of c.args.stores.now) (λ x. refl) (λ x can. (can, tt)) c.in-Some-3.plan c.policy_change.result (carry c.args.command.now (state_of c.args.stores.now)) c.policy_change.ensures
    (found_plan _ _ c.in_ok-plan-3.field-0 c.in-Some-3.plan c.in-Some-3.is c.in_ok-plan-3.ensures.plan (state_of c.args.stores.now) c.requires.kept.valid)).can

pub returns-in-Some-3 : goal.returns-in-Some-3
returns-in-Some-3 c =
    IfOk-weaker c.drafted-in-Some-3.result _ _ (λ p plans. plans (carry c.args.command.now (state_of c.args.stores.now))
    (planned_so ruled CanRule change.Policy (state_of c.args.stores.now) (λ x. refl) (λ x can. (can, tt)) c.in-Some-3.plan c.policy_change.result (carry c.args.command.now (state_of c.args.stores.now)) c.policy_change.ensures
    (found_plan _ _ c.in_ok-plan-3.field-0 c.in-Some-3.plan c.in-Some-3.is c.in_ok-plan-3.ensures.plan (state_of c.args.stores.now) c.requires.kept.valid))) c.drafted-in-Some-3.ensures

pub drafted-requires-in-Some-4-clause-can : goal.drafted-requires-in-Some-4-clause-can
drafted-requires-in-Some-4-clause-can c =
    (planned_so linked CanLink change.Link (state_of c.args.stores.now) (λ x. refl) (λ x can. (can, tt)) c.in-Some-4.plan c.link_change.result (carry c.args.command.now (state_of c.args.stores.now)) c.link_change.ensures
    (found_plan _ _ c.in_ok-plan-4.field-0 c.in-Some-4.plan c.in-Some-4.is c.in_ok-plan-4.ensures.plan (state_of c.args.stores.now) c.requires.kept.valid)).can

pub returns-in-Some-4 : goal.returns-in-Some-4
returns-in-Some-4 c =
    IfOk-weaker c.drafted-in-Some-4.result _ _ (λ p plans. plans (carry c.args.command.now (state_of c.args.stores.now))
    (planned_so linked CanLink change.Link (state_of c.args.stores.now) (λ x. refl) (λ x can. (can, tt)) c.in-Some-4.plan c.link_change.result (carry c.args.command.now (state_of c.args.stores.now)) c.link_change.ensures
    (found_plan _ _ c.in_ok-plan-4.field-0 c.in-Some-4.plan c.in-Some-4.is c.in_ok-plan-4.ensures.plan (state_of c.args.stores.now) c.requires.kept.valid))) c.drafted-in-Some-4.ensures

pub drafted-requires-in-Some-5-clause-can : goal.drafted-requires-in-Some-5-clause-can
drafted-requires-in-Some-5-clause-can c =
    (planned_so offered CanOffer change.Terminator (state_of c.args.stores.now) (λ x. refl) (λ x can. (can, tt)) c.in-Some-5.plan c.term_change.result (carry c.args.command.now (state_of c.args.stores.now)) c.term_change.ensures
    (found_plan _ _ c.in_ok-plan-5.field-0 c.in-Some-5.plan c.in-Some-5.is c.in_ok-plan-5.ensures.plan (state_of c.args.stores.now) (c.requires.kept.counts Bind))).can

pub returns-in-Some-5 : goal.returns-in-Some-5
returns-in-Some-5 c =
    IfOk-weaker c.drafted-in-Some-5.result _ _ (λ p plans. plans (carry c.args.command.now (state_of c.args.stores.now))
    (planned_so offered CanOffer change.Terminator (state_of c.args.stores.now) (λ x. refl) (λ x can. (can, tt)) c.in-Some-5.plan c.term_change.result (carry c.args.command.now (state_of c.args.stores.now)) c.term_change.ensures
    (found_plan _ _ c.in_ok-plan-5.field-0 c.in-Some-5.plan c.in-Some-5.is c.in_ok-plan-5.ensures.plan (state_of c.args.stores.now) (c.requires.kept.counts Bind)))) c.drafted-in-Some-5.ensures

pub plan_circuit_command-requires : goal.plan_circuit_command-requires
plan_circuit_command-requires c = record {
  state = state_of c.args.stores.now;
  valid = c.requires.kept.valid;
  grants = record {
    dial = c.requires.kept.counts Dial;
    bind = c.requires.kept.counts Bind;
    identity_router = c.requires.kept.counts IdentityRouter;
    service_router = c.requires.kept.counts ServiceRouter;
    load = c.requires.kept.loads;
  };
}

pub drafted-requires-clause-can : goal.drafted-requires-clause-can
drafted-requires-clause-can c =
    (planned_so routed CanGrant change.Circuit (state_of c.args.stores.now) (λ x. refl) (λ x can. can) c.in-Some.plan c.circuit_change.result (carry c.args.command.now (state_of c.args.stores.now)) c.circuit_change.ensures
    (found_plan _ _ c.in_ok-plan.field-0 c.in-Some.plan c.in-Some.is c.in_ok-plan.ensures (state_of c.args.stores.now) c.requires.kept.valid (record { dial = c.requires.kept.counts Dial; bind = c.requires.kept.counts Bind; identity_router = c.requires.kept.counts IdentityRouter; service_router = c.requires.kept.counts ServiceRouter; load = c.requires.kept.loads }))).can

pub returns-in-Some : goal.returns-in-Some
returns-in-Some c =
    IfOk-weaker c.drafted.result _ _ (λ p plans. plans (carry c.args.command.now (state_of c.args.stores.now))
    (planned_so routed CanGrant change.Circuit (state_of c.args.stores.now) (λ x. refl) (λ x can. can) c.in-Some.plan c.circuit_change.result (carry c.args.command.now (state_of c.args.stores.now)) c.circuit_change.ensures
    (found_plan _ _ c.in_ok-plan.field-0 c.in-Some.plan c.in-Some.is c.in_ok-plan.ensures (state_of c.args.stores.now) c.requires.kept.valid (record { dial = c.requires.kept.counts Dial; bind = c.requires.kept.counts Bind; identity_router = c.requires.kept.counts IdentityRouter; service_router = c.requires.kept.counts ServiceRouter; load = c.requires.kept.loads })))) c.drafted.ensures

pub plan_other_command-requires : goal.plan_other_command-requires
plan_other_command-requires c = record {
  kept = c.requires.kept;
  spelled = c.requires.spelled;
  entity = no_plan _ _ c.in_ok-plan-2.field-0 c.in_default-2.is c.in_ok-plan-2.ensures.plan;
  policy = no_plan _ _ c.in_ok-plan-3.field-0 c.in_default-3.is c.in_ok-plan-3.ensures.plan;
  link = no_plan _ _ c.in_ok-plan-4.field-0 c.in_default-4.is c.in_ok-plan-4.ensures.plan;
  terminator = no_plan _ _ c.in_ok-plan-5.field-0 c.in_default-5.is c.in_ok-plan-5.ensures.plan;
  circuit = no_plan _ _ c.in_ok-plan.field-0 c.in_default.is c.in_ok-plan.ensures;
}
