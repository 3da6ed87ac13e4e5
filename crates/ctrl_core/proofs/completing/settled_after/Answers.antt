use Rattle.std.proofs.Common.{Option, subst}
use Rattle.ctrl_model.specs.ValidState.{ValidState}
use Rattle.model_laws.specs.Plans.{CanLeadBy, led_by}
use Rattle.core_stores.specs.declared.changes.Change.{Change}
use Rattle.grant_steps.specs.LeadingSteps.{LeadAllCounts}
use Rattle.core_stores.specs.StoredState.{state_of}
use Rattle.ctrl_core.specs.Changes.{after_change}
use Rattle.ctrl_core.specs.PlannedCommands.{CanPlan}
use Rattle.ctrl_core.proofs.completing.settled_after.Goals as goal

pub settled_by-requires-clause-can : goal.settled_by-requires-clause-can
settled_by-requires-clause-can c =
    let s = state_of c.args.stores.now in
    let can = c.requires.can in
    record {
      before = can.kept.valid;
      held = can.kept.held;
      can = (subst (λ (o : Option Change). CanLeadBy CanPlan o s) c.in-Some.is can.can).0;
      valid = subst (λ (o : Option Change). ValidState (led_by after_change o s)) c.in-Some.is can.valid;
    }

pub settled_by-requires-clause-counts : goal.settled_by-requires-clause-counts
settled_by-requires-clause-counts c =
    let s = state_of c.args.stores.now in
    subst (λ (o : Option Change). LeadAllCounts s (led_by after_change o s) c.args.draft.now.steps) c.in-Some.is c.requires.can.counts
