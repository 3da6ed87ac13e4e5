use Rattle.std.proofs.Common.{refl, sym, subst}
use Rattle.std.proofs.lemmas.Result.{IfOk-weaker}
use Rattle.ctrl_model.specs.declared.kinds.Relation.TheVariants.{Dial}
use Rattle.ctrl_model.specs.Controller.{carry}
use Rattle.intercepts.specs.InterceptChanges.{CanClaim, claimed_by}
use Rattle.core_stores.specs.declared.changes.Change.TheVariants as change
use Rattle.core_stores.specs.StoredState.{state_of}
use Rattle.ctrl_core.specs.PlannedCommands.{Plans}
use Rattle.ctrl_core.proofs.FoundPlans.{found_plan, no_plan}
use Rattle.ctrl_core.proofs.NetworkPlans.{planned_so}
use Rattle.ctrl_core.proofs.PlanLaws.{plans_reply, alone_is}
use Rattle.ctrl_core.proofs.commands.plan_other_command.Goals as goal

pub drafted-requires-clause-can : goal.drafted-requires-clause-can
drafted-requires-clause-can c =
    (planned_so claimed_by CanClaim change.Intercept (state_of c.args.stores.now) (λ x. refl) (λ x can. (can, tt)) c.in-Some.plan c.intercept_change.result (carry c.args.command.now (state_of c.args.stores.now)) c.intercept_change.ensures
    (found_plan _ _ c.in_ok-plan.field-0 c.in-Some.plan c.in-Some.is c.in_ok-plan.ensures.plan (state_of c.args.stores.now) (c.requires.kept.counts Dial))).can

pub returns-in-Some : goal.returns-in-Some
returns-in-Some c =
    IfOk-weaker c.drafted.result _ _ (λ p plans. plans (carry c.args.command.now (state_of c.args.stores.now))
    (planned_so claimed_by CanClaim change.Intercept (state_of c.args.stores.now) (λ x. refl) (λ x can. (can, tt)) c.in-Some.plan c.intercept_change.result (carry c.args.command.now (state_of c.args.stores.now)) c.intercept_change.ensures
    (found_plan _ _ c.in_ok-plan.field-0 c.in-Some.plan c.in-Some.is c.in_ok-plan.ensures.plan (state_of c.args.stores.now) (c.requires.kept.counts Dial)))) c.drafted.ensures

pub returns : goal.returns
returns c =
    let s = state_of c.args.stores.now in
    subst (λ answered. Plans c.shown-2.result answered s)
    (sym (alone_is c.args.command.now s c.reply_alone.result c.reply_alone.ensures
    (no_plan _ _ c.in_ok-plan.field-0 c.in_default.is c.in_ok-plan.ensures.plan)
    c.requires.entity c.requires.policy c.requires.link c.requires.terminator c.requires.circuit
    (no_plan _ _ c.in_ok-reply.field-0 c.in_default-2.is c.in_ok-reply.ensures)))
    (plans_reply c.shown-2.result c.reply_alone.result s c.shown-2.ensures)
