-- What a plan of a command on links is (docs/PROMISES.md, "Commands on links").
use Rattle.std.specs.Prelude.{◌≡◌, Bool, true, false}
use Rattle.ctrl_model.specs.declared.commands.Command.{Command}
use Rattle.ctrl_model.specs.declared.commands.Command.TheVariants as command
use Rattle.ctrl_model.specs.declared.replies.Reply.{Reply}
use Rattle.ctrl_model.specs.State.{State}
use Rattle.ctrl_model.specs.ValidState.{ValidState}
use Rattle.entity_store.specs.EntityTables.{Tables}
use Rattle.fabric_graph.specs.FabricTables.{FabricSeen}
use Rattle.model_laws.specs.declared.plans.Plan.{Plan}
use Rattle.model_laws.specs.Plans.{Plans, tells_change}
use Rattle.fabric_graph.specs.declared.changes.LinkChange.{LinkChange}
use Rattle.link_commands.specs.LinkChanges.{linked, CanLink, over}

-- The commands on links and on the least router cost.
abbrev pub is_link_command : Command → Bool
is_link_command (command.CreateLink name a b cost latency_a latency_b) = true
is_link_command (command.SetLinkCost link cost) = true
is_link_command (command.ReportLatency link router latency) = true
is_link_command (command.ReportState link router up) = true
is_link_command (command.DeleteLink link) = true
is_link_command (command.SetLeastRouterCost cost) = true
is_link_command _ = false

-- The plan of an answer by a change of links.
abbrev pub PlansLinks : Plan LinkChange → Reply × State → State → Type 0
PlansLinks p answered s = Plans linked CanLink p answered s

-- An answer tells a change, and so is no refusal, in every valid state with these routers and these links.
abbrev pub TellsChange : (State → Reply × State) → Tables → FabricSeen → Type 0
TellsChange answer t f = (s : State) → ValidState (over t f s) → tells_change (answer (over t f s)).0 ≡ true
