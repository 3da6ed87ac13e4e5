-- What a plan of a command on terminators is (docs/PROMISES.md, "Commands on terminators").
use Rattle.std.specs.Prelude.{◌≡◌, ℕ, Bool, true, false, List}
use Rattle.ctrl_model.specs.declared.commands.Command.{Command}
use Rattle.ctrl_model.specs.declared.commands.Command.TheVariants as command
use Rattle.ctrl_model.specs.declared.kinds.Relation.TheVariants.{Bind}
use Rattle.ctrl_model.specs.declared.replies.Reply.{Reply}
use Rattle.ctrl_model.specs.Grants.{count}
use Rattle.ctrl_model.specs.State.{State}
use Rattle.entity_store.specs.EntityTables.{Tables}
use Rattle.grant_denorm.specs.MovedCounts.{AreCountsOf}
use Rattle.model_laws.specs.declared.plans.Plan.{Plan}
use Rattle.model_laws.specs.Plans.{Plans, tells_change}
use Rattle.terminators.specs.TermTables.{TermTables}
use Rattle.terminators.specs.declared.changes.TermChange.{TermChange}
use Rattle.terminator_commands.specs.TermChanges.{offered, CanOffer, over}

-- The commands on terminators.
abbrev pub is_terminator_command : Command → Bool
is_terminator_command (command.CreateTerminator service router instance host cost precedence) = true
is_terminator_command (command.UpdateTerminator n cost precedence) = true
is_terminator_command (command.DeleteTerminator n) = true
is_terminator_command _ = false

-- The plan of an answer by a change of terminators.
abbrev pub PlansTerms : Plan TermChange → Reply × State → State → Type 0
PlansTerms p answered s = Plans offered CanOffer p answered s

-- An answer tells a change, and so is no refusal, in every state with these entities, these terminators and these counts of Bind.
abbrev pub TellsChange : (State → Reply × State) → Tables → TermTables → List ((ℕ × ℕ) × ℕ) → Type 0
TellsChange answer t k bind = (s : State) → AreCountsOf (count Bind (over t k s)) bind → tells_change (answer (over t k s)).0 ≡ true
