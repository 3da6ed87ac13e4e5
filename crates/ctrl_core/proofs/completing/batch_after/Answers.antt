use Rattle.std.proofs.Common.{Option, sym, ◌∙◌, ap, subst}
use Rattle.ctrl_model.specs.Controller.{counted}
use Rattle.ctrl_model.specs.ValidState.{ValidState}
use Rattle.model_laws.specs.Plans.{CanLeadBy, led_by}
use Rattle.model_laws.proofs.CountedLaws.{counted-same}
use Rattle.row_codec.specs.Batches.{batch_between}
use Rattle.row_laws.proofs.StateBatches.{batch_between-same}
use Rattle.core_stores.specs.declared.changes.Change.{Change}
use Rattle.core_stores.specs.StoredState.{state_of}
use Rattle.grant_steps.specs.LeadingSteps.{LeadAllCounts}
use Rattle.ctrl_core.specs.Changes.{NamesSettled, after_change}
use Rattle.ctrl_core.specs.KeptFormat.{kept_format}
use Rattle.ctrl_core.specs.PlannedCommands.{CanPlan}
use Rattle.ctrl_core.proofs.completing.batch_after.Goals as goal

pub batch_for-requires-clause-known : goal.batch_for-requires-clause-known
batch_for-requires-clause-known c =
    let s = state_of c.args.stores.now in
    let can = c.requires.can in
    record {
      can = record {
        before = can.kept.valid;
        held = can.kept.held;
        can = (subst (λ (o : Option Change). CanLeadBy CanPlan o s) c.in-Some.is can.can).0;
        valid = subst (λ (o : Option Change). ValidState (led_by after_change o s)) c.in-Some.is can.valid;
      };
      settled = subst (λ (o : Option Change). NamesSettled o s c.args.settled.now) c.in-Some.is c.requires.settled;
    }

pub batch_for-requires-clause-counts : goal.batch_for-requires-clause-counts
batch_for-requires-clause-counts c =
    let s = state_of c.args.stores.now in
    subst (λ (o : Option Change). LeadAllCounts s (led_by after_change o s) c.args.draft.now.steps) c.in-Some.is c.requires.can.counts

pub returns-in-None : goal.returns-in-None
returns-in-None c =
    let s = state_of c.args.stores.now in
    c.of.ensures ∙ c.new.ensures.items ∙ sym
    (ap (λ (o : Option Change). batch_between kept_format s (counted s (led_by after_change o s))) c.in-None.is ∙ ap (batch_between kept_format s) (counted-same s)
    ∙ batch_between-same kept_format s c.requires.can.kept.valid)
