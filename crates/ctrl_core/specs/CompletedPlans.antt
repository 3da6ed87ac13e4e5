-- What completing a draft makes of it. Only private functions and proofs of this crate cite this file.
use Rattle.std.specs.Prelude.{◌≡◌, List}
use Rattle.ctrl_model.specs.Controller.{counted}
use Rattle.ctrl_model.specs.ValidState.{ValidState}
use Rattle.model_laws.specs.Plans.{CanLeadBy, led_by}
use Rattle.row_codec.specs.declared.changes.Op.{Op}
use Rattle.row_codec.specs.Batches.{batch_between}
use Rattle.core_stores.specs.declared.changes.Draft.{Draft}
use Rattle.ctrl_core.specs.declared.plans.Planned.{Planned}
use Rattle.core_stores.specs.declared.settled.Settled.{Settled}
use Rattle.core_stores.specs.declared.stores.Stores.{Stores}
use Rattle.ctrl_core.specs.Changes.{NamesSettled, after_change}
use Rattle.grant_steps.specs.LeadingSteps.{LeadAllCounts}
use Rattle.ctrl_core.specs.KeptFormat.{kept_format}
use Rattle.ctrl_core.specs.KeptState.{Keeps}
use Rattle.core_stores.specs.StoredState.{state_of}
use Rattle.ctrl_core.specs.PlannedCommands.{CanPlan}

-- A draft that can be carried out in the state of some stores, and leads to a valid state by its change and its steps.
pub record CanComplete (st : Stores) (d : Draft) : Type 0 where
  pub kept : Keeps st
  pub can : CanLeadBy CanPlan d.change (state_of st)
  pub valid : ValidState (led_by after_change d.change (state_of st))
  pub counts : LeadAllCounts (state_of st) (led_by after_change d.change (state_of st)) d.steps

-- What settles after the change of a draft, and the batch of the rows that differ.
pub record SettlesAs (st : Stores) (d : Draft) (g : Settled) (batch : List Op) : Type 0 where
  pub settled : NamesSettled d.change (state_of st) g
  pub batch_is : batch ≡ batch_between kept_format (state_of st) (counted (state_of st) (led_by after_change d.change (state_of st)))

-- A plan is a draft with what settles and with the batch of the rows that differ.
pub record Completes (st : Stores) (d : Draft) (p : Planned) : Type 0 where
  pub reply_is : p.reply ≡ d.reply
  pub change_is : p.change ≡ d.change
  pub steps_are : p.steps ≡ d.steps
  pub settled : NamesSettled d.change (state_of st) p.settled
  pub batch_is : p.batch ≡ batch_between kept_format (state_of st) (counted (state_of st) (led_by after_change d.change (state_of st)))
