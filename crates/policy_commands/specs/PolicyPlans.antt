-- What a plan of a command on policies is (docs/PROMISES.md, "The stores of a core").
use Rattle.std.specs.Prelude.{◌≡◌, Bool, true, false, ◌||◌}
use Rattle.ctrl_model.specs.declared.commands.Command.{Command}
use Rattle.ctrl_model.specs.declared.commands.Command.TheVariants as command
use Rattle.ctrl_model.specs.declared.kinds.Kind.TheVariants as kind
use Rattle.ctrl_model.specs.declared.refusals.Refusal.TheVariants.{Full, UnknownRef}
use Rattle.ctrl_model.specs.declared.replies.Reply.{Reply}
use Rattle.ctrl_model.specs.declared.replies.Reply.TheVariants.{Refused}
use Rattle.ctrl_model.specs.State.{State}
use Rattle.ctrl_model.specs.ValidState.{ValidState}
use Rattle.entity_store.specs.EntityTables.{Tables}
use Rattle.model_laws.specs.declared.plans.Plan.{Plan}
use Rattle.model_laws.specs.Plans.{Plans, tells_change}
use Rattle.policy_store.specs.declared.changes.PolicyChange.{PolicyChange}
use Rattle.policy_store.specs.PolicyChanges.{ruled, CanRule}
use Rattle.policy_store.specs.PolicyTables.{PolicyTables}
use Rattle.policy_commands.specs.PolicyStates.{over}

-- The commands on service policies.
abbrev pub is_service_policy_command : Command → Bool
is_service_policy_command (command.CreateServicePolicy name relation semantic left right) = true
is_service_policy_command (command.UpdateServicePolicy name relation semantic left right) = true
is_service_policy_command (command.DeleteServicePolicy name) = true
is_service_policy_command _ = false

-- The commands on edge-router policies.
abbrev pub is_edge_router_policy_command : Command → Bool
is_edge_router_policy_command (command.CreateEdgeRouterPolicy name semantic left right) = true
is_edge_router_policy_command (command.UpdateEdgeRouterPolicy name semantic left right) = true
is_edge_router_policy_command (command.DeleteEdgeRouterPolicy name) = true
is_edge_router_policy_command _ = false

-- The commands on service-edge-router policies.
abbrev pub is_service_edge_router_policy_command : Command → Bool
is_service_edge_router_policy_command (command.CreateServiceEdgeRouterPolicy name semantic left right) = true
is_service_edge_router_policy_command (command.UpdateServiceEdgeRouterPolicy name semantic left right) = true
is_service_edge_router_policy_command (command.DeleteServiceEdgeRouterPolicy name) = true
is_service_edge_router_policy_command _ = false

-- The commands on policies.
abbrev pub is_policy_command : Command → Bool
is_policy_command c = is_service_policy_command c || (is_edge_router_policy_command c || is_service_edge_router_policy_command c)

-- The plan of an answer by a change of policies.
abbrev pub PlansPolicies : Plan PolicyChange → Reply × State → State → Type 0
PlansPolicies p answered s = Plans ruled CanRule p answered s

-- Whether a reply takes memory: it tells a change, which owns a policy; it tells an absent `@` name; or it refuses attributes, which are
-- listed to be counted. Every other refusal is found and told without.
abbrev pub takes_memory : Reply → Bool
takes_memory (Refused (UnknownRef field name)) = true
takes_memory (Refused (Full kind.Attribute)) = true
takes_memory r = tells_change r

-- An answer takes memory in every valid state with these entities and these policies.
abbrev pub TakesMemory : (State → Reply × State) → Tables → PolicyTables → Type 0
TakesMemory answer t p = (s : State) → ValidState (over t p s) → takes_memory (answer (over t p s)).0 ≡ true
