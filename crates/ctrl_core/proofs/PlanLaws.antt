-- What a plan has to show: of a reply that changes nothing, of a refusal, and of a change that is carried out.
use Rattle.std.proofs.Common.{◌≡◌, true, false, ◌||◌, List, Option, None, Some, refl, sym, ◌∙◌, ap, subst}
use Rattle.std.proofs.lemmas.Bool.{true≢false}
use Rattle.ctrl_model.specs.declared.commands.Command.{Command}
use Rattle.ctrl_model.specs.declared.commands.Command.TheVariants as command
use Rattle.ctrl_model.specs.declared.kinds.Relation.{Relation}
use Rattle.ctrl_model.specs.declared.kinds.Who.TheVariants.{Admin}
use Rattle.ctrl_model.specs.declared.kinds.Relation.TheVariants.{Dial, Bind, IdentityRouter, ServiceRouter}
use Rattle.ctrl_model.specs.declared.replies.Reply.{Reply}
use Rattle.ctrl_model.specs.State.{State}
use Rattle.ctrl_model.specs.Grants.{count}
use Rattle.ctrl_model.specs.SpelledCommands.{is_spelled}
use Rattle.ctrl_model.specs.Controller.{carry, counted}
use Rattle.ctrl_model.specs.InterceptCommands.{is_intercept_command}
use Rattle.ctrl_model.specs.ValidState.{ValidState}
use Rattle.ctrl_model.specs.Settling.{settle}
use Rattle.model_laws.proofs.ValidCommands.{answer-valid}
use Rattle.model_laws.specs.Plans.{CanLeadBy, led_by}
use Rattle.grant_denorm.specs.declared.deltas.Delta.{Delta}
use Rattle.grant_moves.specs.CountMoves.{LeadCounts}
use Rattle.grant_moves.proofs.LeadingCounts.{unchanged_leads}
use Rattle.entity_commands.specs.EntityPlans.{is_entity_command}
use Rattle.link_commands.specs.LinkPlans.{is_link_command}
use Rattle.policy_commands.specs.PolicyPlans.{is_policy_command}
use Rattle.terminator_commands.specs.TermPlans.{is_terminator_command}
use Rattle.ctrl_core.specs.OtherCommands.{reply_alone}
use Rattle.show_commands.specs.ShownCommands.{is_grant_command}
use Rattle.circuit_rules.specs.CircuitPlans.{is_circuit_command}
use Rattle.core_stores.specs.declared.changes.Change.{Change}
use Rattle.policy_store.specs.declared.steps.GrantSteps.{GrantSteps}
use Rattle.core_stores.specs.declared.changes.Draft.{Draft}
use Rattle.ctrl_core.specs.Changes.{CanChange, IsStill, LeadsFrom, NamesSettled, after_change}
use Rattle.ctrl_core.specs.CompletedPlans.{CanComplete, Completes}
use Rattle.ctrl_core.specs.KeptFormat.{kept_format}
use Rattle.ctrl_core.specs.KeptState.{Keeps}
use Rattle.row_codec.specs.Batches.{batch_between}
use Rattle.core_stores.specs.StoredState.{state_of}
use Rattle.ctrl_core.specs.declared.plans.Planned.{Planned}
use Rattle.core_stores.specs.declared.stores.Stores.{Stores}
use Rattle.policy_store.specs.StepsOfRelations.{HasNoSteps, steps_of}
use Rattle.ctrl_core.specs.PlannedCommands.{CanPlan, Plans}
use Rattle.core_stores.specs.Drafts.{IsShown}

-- no steps lead from the counts of a state to themselves
pub no_steps_lead : (s : State) (steps : GrantSteps) → HasNoSteps steps → (r : Relation) → LeadCounts (count r s) (count r s) (steps_of r steps)
no_steps_lead s steps none Dial = subst (λ ds. LeadCounts (count Dial s) (count Dial s) ds) (sym none.dial) (unchanged_leads Dial s s refl refl refl)
no_steps_lead s steps none Bind = subst (λ ds. LeadCounts (count Bind s) (count Bind s) ds) (sym none.bind) (unchanged_leads Bind s s refl refl refl)
no_steps_lead s steps none IdentityRouter =
    subst (λ ds. LeadCounts (count IdentityRouter s) (count IdentityRouter s) ds) (sym none.identity_router) (unchanged_leads IdentityRouter s s refl refl refl)
no_steps_lead s steps none ServiceRouter =
    subst (λ ds. LeadCounts (count ServiceRouter s) (count ServiceRouter s) ds) (sym none.service_router) (unchanged_leads ServiceRouter s s refl refl refl)

-- a reply that changes nothing
pub plans_reply : (p : Draft) (reply : Reply) (s : State) → IsShown reply p → Plans p (reply, s) s
plans_reply p reply s is = record {
  reply = is.reply_is;
  can = subst (λ (o : Option Change). CanLeadBy CanPlan o s) (sym is.change_is) tt;
  next = ap (λ (o : Option Change). led_by after_change o s) is.change_is;
  still = λ tells. record { change_is = is.change_is; no_steps = is.no_steps };
  counts = no_steps_lead s p.steps is.no_steps;
}

-- settling changes no count
pub settled_lead : (r : Relation) (s effect : State) (ds : List Delta) → LeadCounts (count r s) (count r effect) ds → LeadCounts (count r s) (count r (settle effect)) ds
settled_lead Dial s effect ds leads = leads
settled_lead Bind s effect ds leads = leads
settled_lead IdentityRouter s effect ds leads = leads
settled_lead ServiceRouter s effect ds leads = leads

-- a draft of a command that some body spells can be completed
pub can_complete : (st : Stores) (d : Draft) (c : Command) → Keeps st → is_spelled c ≡ true → Plans d (carry c (state_of st)) (state_of st) → CanComplete st d
can_complete st d c keeps spelled plans = record {
  kept = keeps;
  can = plans.can;
  valid = subst (λ t. ValidState t) (sym plans.next) (answer-valid Admin c (state_of st) spelled keeps.valid);
  counts = λ r. subst (λ t. LeadCounts (count r (state_of st)) (count r t) (steps_of r d.steps)) (sym plans.next) (plans.counts r);
}

-- a planned change can be made
pub can_be_made : (o : Option Change) (s : State) → CanLeadBy CanPlan o s → CanLeadBy CanChange o s
can_be_made None s can = tt
can_be_made (Some c) s can = can.0

-- a plan that completes a draft of a command leads to the controller's next state
pub leads_from : (st : Stores) (d : Draft) (p : Planned) (c : Command) → CanComplete st d → Plans d (carry c (state_of st)) (state_of st) → Completes st d p
    → LeadsFrom p (state_of st) (counted (state_of st) (carry c (state_of st)).1)
leads_from st d p c can plans made = record {
  can = record {
    can = subst (λ o. CanLeadBy CanChange o (state_of st)) (sym made.change_is) (can_be_made d.change (state_of st) can.can);
    valid = subst (λ o. ValidState (led_by after_change o (state_of st))) (sym made.change_is) can.valid;
    settled = subst (λ o. NamesSettled o (state_of st) p.settled) (sym made.change_is) made.settled;
    counts = λ r. subst (λ o. LeadCounts (count r (state_of st)) (count r (led_by after_change o (state_of st))) (steps_of r p.steps)) (sym made.change_is)
        (subst (λ ds. LeadCounts (count r (state_of st)) (count r (led_by after_change d.change (state_of st))) (steps_of r ds)) (sym made.steps_are) (can.counts r));
    batch = made.batch_is ∙ ap (λ o. batch_between kept_format (state_of st) (counted (state_of st) (led_by after_change o (state_of st)))) (sym made.change_is);
  };
  next = ap (λ o. counted (state_of st) (led_by after_change o (state_of st))) made.change_is ∙ ap (counted (state_of st)) plans.next;
}

-- what stays still in a draft does so in its plan
pub still_is : (st : Stores) (d : Draft) (p : Planned) → Completes st d p → IsStill d.change d.steps → IsStill p.change p.steps
still_is st d p made still = record {
  change_is = made.change_is ∙ still.change_is;
  no_steps = subst HasNoSteps (sym made.steps_are) still.no_steps;
}

-- a command of no family changes nothing
pub alone_is : (c : Command) (s : State) (reply : Reply) → reply ≡ reply_alone c → is_intercept_command c ≡ false → is_entity_command c ≡ false → is_policy_command c ≡ false → is_link_command c ≡ false
    → is_terminator_command c ≡ false → is_circuit_command c ≡ false → is_grant_command c ≡ false → carry c s ≡ (reply, s)
alone_is c s reply is intercept entity policy link terminator circuit grant =
    by c (λ i. intercept i || (entity i || (policy i || (link i || (terminator i || (circuit i || grant i)))))) ∙ ap (λ (r : Reply). (r, s)) (sym is)
  where
    by : (c : Command) → (is_intercept_command c || (is_entity_command c || (is_policy_command c || (is_link_command c || (is_terminator_command c || (is_circuit_command c || is_grant_command c)))))) ≡ false
        → carry c s ≡ (reply_alone c, s)
    by command.Hello none = refl
    by command.Compact none = refl
    by _ none = absurd (true≢false none)
