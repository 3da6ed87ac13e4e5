-- What a plan of a command on entities is (docs/PROMISES.md, "Commands on entities").
use Rattle.std.specs.Prelude.{◌≡◌, Bool, true, false}
use Rattle.ctrl_model.specs.declared.commands.Command.{Command}
use Rattle.ctrl_model.specs.declared.commands.Command.TheVariants as command
use Rattle.ctrl_model.specs.declared.replies.Reply.{Reply}
use Rattle.ctrl_model.specs.State.{State}
use Rattle.ctrl_model.specs.ValidState.{ValidState}
use Rattle.entity_store.specs.EntityTables.{Tables}
use Rattle.entity_store.specs.HeldUses.{with_entities, HoldsPolicies}
use Rattle.model_laws.specs.declared.plans.Plan.{Plan}
use Rattle.model_laws.specs.Plans.{Plans, tells_change}
use Rattle.entity_store.specs.declared.changes.EntityChange.{EntityChange}
use Rattle.entity_commands.specs.EntityChanges.{entered, CanEnter}

-- The commands on identities, services and edge routers.
abbrev pub is_entity_command : Command → Bool
is_entity_command (command.CreateIdentity name attributes) = true
is_entity_command (command.UpdateIdentity name attributes) = true
is_entity_command (command.DeleteIdentity name) = true
is_entity_command (command.CreateService name attributes) = true
is_entity_command (command.UpdateService name attributes) = true
is_entity_command (command.DeleteService name) = true
is_entity_command (command.CreateRouter name attributes cost no_traversal) = true
is_entity_command (command.UpdateRouter name attributes cost no_traversal) = true
is_entity_command (command.DeleteRouter name) = true
is_entity_command (command.ConnectRouter name) = true
is_entity_command (command.DisconnectRouter name) = true
is_entity_command _ = false

-- The plan of an answer by a change of entities.
abbrev pub PlansEntities : Plan EntityChange → Reply × State → State → Type 0
PlansEntities p answered s = Plans entered CanEnter p answered s

-- An answer tells a change, and so is no refusal, in every valid state with these entities, of whose policies these uses are held.
abbrev pub TellsChange : (State → Reply × State) → Tables → Type 0
TellsChange answer t = (s : State) → ValidState (with_entities t s) → HoldsPolicies t s → tells_change (answer (with_entities t s)).0 ≡ true
