-- Plans of the families of commands as plans of the core, with their steps; and what settling leaves.
use Rattle.std.proofs.Common.{◌≡◌, Option, None, Some, refl, sym, ◌∙◌, ap, subst}
use Rattle.std.proofs.lemmas.Option.{none-some}
use Rattle.std.specs.Option.{option_map}
use Rattle.ctrl_model.specs.declared.replies.Reply.{Reply}
use Rattle.ctrl_model.specs.Grants.{count}
use Rattle.ctrl_model.specs.Settling.{settle}
use Rattle.ctrl_model.specs.State.{State}
use Rattle.model_laws.specs.declared.plans.Plan.{Plan}
use Rattle.model_laws.specs.Plans as plans
use Rattle.grant_moves.specs.CountMoves.{LeadCounts}
use Rattle.policy_store.specs.declared.steps.GrantSteps.{GrantSteps}
use Rattle.policy_store.specs.StepsOfRelations.{HasNoSteps, steps_of}
use Rattle.core_stores.specs.declared.changes.Change.{Change}
use Rattle.core_stores.specs.declared.changes.Draft.{Draft}
use Rattle.core_stores.specs.declared.stores.Stores.{Stores}
use Rattle.core_stores.specs.CarriedStates.{Carries}
use Rattle.core_stores.specs.StoredState.{state_of}
use Rattle.ctrl_core.specs.Changes.{after_change}
use Rattle.grant_steps.specs.LeadingSteps.{LeadAllCounts}
use Rattle.ctrl_core.specs.ChangedStores.{CanSettle}
use Rattle.core_stores.specs.SettledNumbers.{without_settled}
use Rattle.ctrl_core.specs.SettledRecords.{AreSettled}
use Rattle.core_stores.specs.declared.settled.Settled.{Settled}
use Rattle.ctrl_core.proofs.StateParts.{without_is_settled}
use Rattle.ctrl_core.specs.PlannedCommands.{CanPlan, Plans}
use Rattle.core_stores.specs.Drafts.{IsShown}
use Rattle.ctrl_core.proofs.PlanLaws.{no_steps_lead, settled_lead}

-- ---- settling

-- a change that is made, and what settles taken out
pub carries_then : (c : Change) (st mid new : Stores) (g : Settled) → CanSettle st c → AreSettled (after_change c (state_of st)) g → Carries st mid (after_change c (state_of st))
    → Carries mid new (without_settled g (state_of mid)) → Carries st new (settle (after_change c (state_of st)))
carries_then c st mid new g can are made taken = record {
  next = taken.next ∙ ap (without_settled g) made.next ∙ without_is_settled c st g can are;
  held = taken.held;
  counts = taken.counts ∙ made.counts;
}

-- ---- the plans of a family

module _ {C : Type 0} (after : C → State → State) (can_be : C → State → Type 0) (embed : C → Change) (s : State)
    (same : (c : C) → after_change (embed c) s ≡ after c s) (allows : (c : C) → can_be c s → CanPlan (embed c) s) where
  can_lead : (o : Option C) → plans.CanLeadBy can_be o s → plans.CanLeadBy CanPlan (option_map embed o) s
  can_lead None can = tt
  can_lead (Some c) can = allows c can

  leads : (o : Option C) → plans.led_by after_change (option_map embed o) s ≡ plans.led_by after o s
  leads None = refl
  leads (Some c) = ap settle (same c)

  -- a plan of a family, as one of the core
  pub planned_so : (made : Plan C) (change : Option Change) (answered : Reply × State) → change ≡ option_map embed made.change → plans.Plans after can_be made answered s
      → plans.Plans after_change CanPlan (record { reply = made.reply; change = change }) answered s
  planned_so made change answered is planned = record {
    reply = planned.reply;
    can = subst (λ (o : Option Change). plans.CanLeadBy CanPlan o s) (sym is) (can_lead made.change planned.can);
    next = ap (λ (o : Option Change). plans.led_by after_change o s) is ∙ leads made.change ∙ planned.next;
    still = λ tells. is ∙ ap (option_map embed) (planned.still tells);
  }

-- the draft of a plan, with steps to the counts of the state that it leads to
drafted_planned : (made : Plan Change) (p : Draft) (answered : Reply × State) (s : State) → plans.Plans after_change CanPlan made answered s → p.reply ≡ made.reply
    → p.change ≡ made.change → (made.change ≡ None → HasNoSteps p.steps) → LeadAllCounts s (plans.led_by after_change made.change s) p.steps → Plans p answered s
drafted_planned made p answered s planned reply_is change_is none counted = record {
  reply = reply_is ∙ planned.reply;
  can = subst (λ (o : Option Change). plans.CanLeadBy CanPlan o s) (sym change_is) planned.can;
  next = ap (λ (o : Option Change). plans.led_by after_change o s) change_is ∙ planned.next;
  still = λ tells. record { change_is = change_is ∙ planned.still tells; no_steps = none (planned.still tells) };
  counts = subst (λ t. LeadAllCounts s t p.steps) planned.next counted;
}

-- the draft of a plan without a change
pub shown_planned : (made : Plan Change) (p : Draft) (answered : Reply × State) (s : State) → made.change ≡ None → IsShown made.reply p
    → plans.Plans after_change CanPlan made answered s → Plans p answered s
shown_planned made p answered s none is planned =
    drafted_planned made p answered s planned is.reply_is (is.change_is ∙ sym none) (λ e. is.no_steps)
    (λ r. subst (λ o. LeadCounts (count r s) (count r (plans.led_by after_change o s)) (steps_of r p.steps)) (sym none) (no_steps_lead s p.steps is.no_steps r))

-- the draft of a plan with a change, whose steps are known
pub changed_planned : (made : Plan Change) (c : Change) (steps : GrantSteps) (answered : Reply × State) (s : State) → made.change ≡ Some c → LeadAllCounts s (after_change c s) steps
    → plans.Plans after_change CanPlan made answered s → Plans (record { reply = made.reply; change = Some c; steps = steps }) answered s
changed_planned made c steps answered s some leading planned =
    drafted_planned made (record { reply = made.reply; change = Some c; steps = steps }) answered s planned refl (sym some) (λ e. absurd (none-some c (sym e ∙ some)))
    (λ r. subst (λ o. LeadCounts (count r s) (count r (plans.led_by after_change o s)) (steps_of r steps)) (sym some) (settled_lead r s (after_change c s) (steps_of r steps) (leading r)))
