-- What the private functions of planning answer. No public contract cites it.
use Rattle.std.specs.Prelude.{◌≡◌, ⊤, false}
use Rattle.ctrl_model.specs.declared.replies.Reply.{Reply}
use Rattle.ctrl_model.specs.State.{State}
use Rattle.model_laws.specs.Plans.{CanLeadBy, led_by, tells_change}
use Rattle.circuit_rules.specs.CircuitPlans.{StandsIn}
use Rattle.core_stores.specs.declared.changes.Change.{Change}
use Rattle.core_stores.specs.declared.changes.Change.TheVariants as change
use Rattle.core_stores.specs.declared.changes.Draft.{Draft}
use Rattle.grant_steps.specs.LeadingSteps.{LeadAllCounts}
use Rattle.ctrl_core.specs.Changes.{CanChange, IsStill, after_change}

-- A circuit that a change adds stands in the state before it. Other changes add none.
abbrev pub Stands : Change → State → Type 0
Stands (change.Circuit c) s = StandsIn c s
Stands _ s = ⊤

-- What a planned change has of the state: it can be made there, and a circuit that it adds stands there.
abbrev pub CanPlan : Change → State → Type 0
CanPlan c s = CanChange c s × Stands c s

-- The plan of an answer: its reply, that it leads to the answer's state, that its steps lead to that state's counts, and that it
-- changes nothing where its reply tells of no change.
pub record Plans (p : Draft) (answered : Reply × State) (s : State) : Type 0 where
  pub reply : p.reply ≡ answered.0
  pub can : CanLeadBy CanPlan p.change s
  pub next : led_by after_change p.change s ≡ answered.1
  pub still : tells_change answered.0 ≡ false → IsStill p.change p.steps
  pub counts : LeadAllCounts s answered.1 p.steps
