-- What a plan keeps to carry out: one change of the stores and the steps of the counts, where it leads, and when it can
-- (docs/PROMISES.md, "The core").
use Rattle.std.specs.Prelude.{◌≡◌, None, Some}
use Rattle.std.specs.declared.option.Option.{Option}
use Rattle.ctrl_model.specs.Controller.{counted}
use Rattle.ctrl_model.specs.State.{State}
use Rattle.ctrl_model.specs.ValidState.{ValidState}
use Rattle.model_laws.specs.Plans.{CanLeadBy, led_by}
use Rattle.entity_commands.specs.EntityChanges.{CanEnter, entered}
use Rattle.policy_store.specs.declared.steps.GrantSteps.{GrantSteps}
use Rattle.policy_store.specs.StepsOfRelations.{HasNoSteps}
use Rattle.policy_store.specs.PolicyChanges.{CanRule, ruled}
use Rattle.link_commands.specs.LinkChanges.{CanLink, linked}
use Rattle.terminator_commands.specs.TermChanges.{CanOffer, offered}
use Rattle.circuit_rules.specs.CircuitPlans.{CanRoute, routed}
use Rattle.intercepts.specs.InterceptChanges.{CanClaim, claimed_by}
use Rattle.core_stores.specs.declared.changes.Change.{Change}
use Rattle.core_stores.specs.declared.changes.Change.TheVariants as change
use Rattle.grant_steps.specs.LeadingSteps.{LeadAllCounts}
use Rattle.ctrl_core.specs.declared.plans.Planned.{Planned}
use Rattle.core_stores.specs.declared.settled.Settled.{Settled}
use Rattle.core_stores.specs.SettledNumbers.{SettlesNothing}
use Rattle.ctrl_core.specs.SettledRecords.{AreSettled}
use Rattle.ctrl_core.specs.KeptFormat.{kept_format}
use Rattle.row_codec.specs.Batches.{batch_between}

-- The state after a change, not yet settled.
abbrev pub after_change : Change → State → State
after_change (change.Entity c) s = entered c s
after_change (change.Policy c) s = ruled c s
after_change (change.Link c) s = linked c s
after_change (change.Terminator c) s = offered c s
after_change (change.Circuit c) s = routed c s
after_change (change.Intercept c) s = claimed_by c s

-- What a change needs of the state.
abbrev pub CanChange : Change → State → Type 0
CanChange (change.Entity c) s = CanEnter c s
CanChange (change.Policy c) s = CanRule c s
CanChange (change.Link c) s = CanLink c s
CanChange (change.Terminator c) s = CanOffer c s
CanChange (change.Circuit c) s = CanRoute c s
CanChange (change.Intercept c) s = CanClaim c s

-- Where the change of a plan leads, not yet counted: the state stays where the plan has no change, and is settled after a change.
abbrev pub led : Planned → State → State
led p s = led_by after_change p.change s

-- Nothing changes: there is no change, and no count moves.
pub record IsStill (change : Option Change) (steps : GrantSteps) : Type 0 where
  pub change_is : change ≡ None
  pub no_steps : HasNoSteps steps

-- What settles after a change is named: what goes out of the state after it, and which circuits are moved. Where nothing changes nothing
-- settles.
abbrev pub NamesSettled : Option Change → State → Settled → Type 0
NamesSettled None s g = SettlesNothing g
NamesSettled (Some c) s g = AreSettled (after_change c s) g

-- A plan can lead from a state: what it keeps can be changed there, where it leads is a valid state, it names what settles, its steps
-- lead the grant counts of the one state to those of the other, and its batch is the difference between the rows of the two, counted.
pub record CanLead (p : Planned) (s : State) : Type 0 where
  pub can : CanLeadBy CanChange p.change s
  pub valid : ValidState (led p s)
  pub settled : NamesSettled p.change s p.settled
  pub counts : LeadAllCounts s (led p s) p.steps
  pub batch : p.batch ≡ batch_between kept_format s (counted s (led p s))

-- A plan leads from one state to another, counted.
pub record LeadsFrom (p : Planned) (s t : State) : Type 0 where
  pub can : CanLead p s
  pub next : counted s (led p s) ≡ t
