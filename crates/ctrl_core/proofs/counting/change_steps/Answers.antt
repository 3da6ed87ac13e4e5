use Rattle.std.proofs.Common.{sym, subst}
use Rattle.std.proofs.lemmas.Result.{IfOk-weaker}
use Rattle.core_stores.specs.declared.changes.Change.{Change}
use Rattle.grant_steps.specs.LeadingSteps.{LeadAllCounts}
use Rattle.ctrl_core.specs.Changes.{CanChange, after_change}
use Rattle.core_stores.specs.StoredState.{state_of}
use Rattle.ctrl_core.proofs.JoinedLaws.{network_leads}
use Rattle.ctrl_core.proofs.counting.change_steps.Goals as goal

pub returns-in-Link : goal.returns-in-Link
returns-in-Link c = network_leads c.args.change.now (state_of c.args.stores.now) c.none.result c.in-Link.is c.none.ensures

pub returns-in-Policy : goal.returns-in-Policy
returns-in-Policy c = IfOk-weaker c.policy_change_steps.result _ _ (λ steps leads.
    subst (λ (d : Change). LeadAllCounts (state_of c.args.stores.now) (after_change d (state_of c.args.stores.now)) steps) (sym c.in-Policy.is)
    (leads (state_of c.args.stores.now) c.requires.kept.valid (subst (λ (d : Change). CanChange d (state_of c.args.stores.now)) c.in-Policy.is c.requires.can))) c.policy_change_steps.ensures
