-- The controller: who sends which command in which state gets which reply, and which state is next
-- (docs/RULES.md, "The controller"). Each command names one definition of its family.
use Rattle.std.specs.Prelude.{ℕ, ◌+◌, true, false, cond, List, None}
use Rattle.ctrl_model.specs.declared.commands.Command.{Command}
use Rattle.ctrl_model.specs.declared.commands.Command.TheVariants as command
use Rattle.ctrl_model.specs.declared.kinds.Who.{Who}
use Rattle.ctrl_model.specs.declared.kinds.Side.{Side}
use Rattle.ctrl_model.specs.declared.kinds.Semantic.{Semantic}
use Rattle.ctrl_model.specs.declared.kinds.Relation.{Relation}
use Rattle.ctrl_model.specs.declared.kinds.Relation.TheVariants.{IdentityRouter, ServiceRouter}
use Rattle.ctrl_model.specs.declared.refusals.Refusal.TheVariants.{NotPermitted}
use Rattle.ctrl_model.specs.declared.replies.Reply.{Reply}
use Rattle.ctrl_model.specs.declared.replies.Reply.TheVariants.{Empty, Done, Refused}
use Rattle.ctrl_model.specs.State.{State, Policy}
use Rattle.ctrl_model.specs.Permitted.{is_permitted}
use Rattle.ctrl_model.specs.Rules.{shown}
use Rattle.ctrl_model.specs.EntityCommands.{create_identity, update_identity, delete_identity, create_service, update_service, delete_service, create_router, update_router, delete_router, mark_router}
use Rattle.ctrl_model.specs.PolicyCommands.{create_service_policy, update_service_policy, delete_service_policy, create_edge_router_policy, update_edge_router_policy, delete_edge_router_policy, create_service_edge_router_policy, update_service_edge_router_policy, delete_service_edge_router_policy}
use Rattle.ctrl_model.specs.LinkCommands.{create_link, set_link_cost, report_latency, report_state, delete_link, set_least_router_cost}
use Rattle.ctrl_model.specs.TerminatorCommands.{create_terminator, update_terminator, delete_terminator}
use Rattle.ctrl_model.specs.CircuitCommands.{ask_of, create_circuit, delete_circuit, explain, verify_route, show_circuit}
use Rattle.ctrl_model.specs.ShowCommands.{show_grants, list_services, show_counts}
use Rattle.ctrl_model.specs.InterceptCommands.{set_intercept, clear_intercept, pick, list_clashes}
use Rattle.ctrl_model.specs.SameStates.{same_state}

-- The policy that a command's fields say.
abbrev pub policy : List ℕ → Relation → Semantic → Side → Side → Policy
policy name relation semantic left right = record { name = name; relation = relation; semantic = semantic; left = left; right = right }

-- The reply to a permitted command, and the next state.
abbrev pub carry : Command → State → Reply × State
carry command.Hello s = shown None s Empty
carry (command.CreateIdentity name attributes) s = create_identity name attributes s
carry (command.UpdateIdentity name attributes) s = update_identity name attributes s
carry (command.DeleteIdentity name) s = delete_identity name s
carry (command.CreateService name attributes) s = create_service name attributes s
carry (command.UpdateService name attributes) s = update_service name attributes s
carry (command.DeleteService name) s = delete_service name s
carry (command.CreateRouter name attributes cost no_traversal) s = create_router name attributes cost no_traversal s
carry (command.UpdateRouter name attributes cost no_traversal) s = update_router name attributes cost no_traversal s
carry (command.DeleteRouter name) s = delete_router name s
carry (command.ConnectRouter name) s = mark_router name true s
carry (command.DisconnectRouter name) s = mark_router name false s
carry (command.CreateServicePolicy name relation semantic left right) s = create_service_policy (policy name relation semantic left right) s
carry (command.UpdateServicePolicy name relation semantic left right) s = update_service_policy (policy name relation semantic left right) s
carry (command.DeleteServicePolicy name) s = delete_service_policy name s
carry (command.CreateEdgeRouterPolicy name semantic left right) s = create_edge_router_policy (policy name IdentityRouter semantic left right) s
carry (command.UpdateEdgeRouterPolicy name semantic left right) s = update_edge_router_policy (policy name IdentityRouter semantic left right) s
carry (command.DeleteEdgeRouterPolicy name) s = delete_edge_router_policy name s
carry (command.CreateServiceEdgeRouterPolicy name semantic left right) s = create_service_edge_router_policy (policy name ServiceRouter semantic left right) s
carry (command.UpdateServiceEdgeRouterPolicy name semantic left right) s = update_service_edge_router_policy (policy name ServiceRouter semantic left right) s
carry (command.DeleteServiceEdgeRouterPolicy name) s = delete_service_edge_router_policy name s
carry (command.CreateLink name a b cost latency_a latency_b) s = create_link name a b cost latency_a latency_b s
carry (command.SetLinkCost link cost) s = set_link_cost link cost s
carry (command.ReportLatency link router latency) s = report_latency link router latency s
carry (command.ReportState link router up) s = report_state link router up s
carry (command.DeleteLink link) s = delete_link link s
carry (command.SetLeastRouterCost cost) s = set_least_router_cost cost s
carry (command.CreateTerminator service router instance host cost precedence) s = create_terminator service router instance host cost precedence s
carry (command.UpdateTerminator n cost precedence) s = update_terminator n cost precedence s
carry (command.DeleteTerminator n) s = delete_terminator n s
carry (command.CreateCircuit identity service ingress instance) s = create_circuit (ask_of identity service ingress instance s) s
carry (command.DeleteCircuit n) s = delete_circuit n s
carry (command.Explain identity service ingress instance) s = explain (ask_of identity service ingress instance s) s
carry (command.VerifyRoute identity service ingress instance chosen links potentials routers terminator total) s =
    verify_route (ask_of identity service ingress instance s) chosen links potentials routers terminator total s
carry (command.ShowGrants identity) s = show_grants identity s
carry (command.ListServices identity) s = list_services identity s
carry command.ShowCounts s = show_counts s
carry (command.ShowCircuit n) s = show_circuit n s
carry command.Compact s = shown None s Done
carry (command.SetIntercept service intercept) s = set_intercept service intercept s
carry (command.ClearIntercept service) s = clear_intercept service s
carry (command.Pick identity udp address port) s = pick identity udp address port s
carry (command.ListClashes identity service) s = list_clashes identity service s

-- The answer to a command: not permitted, it is refused and leaves the state.
abbrev pub answer : Who → Command → State → Reply × State
answer who c s = cond (is_permitted who c) (carry c s) (Refused NotPermitted, s)

-- A state that follows another, counted: where it is another one, its serial is one higher.
abbrev pub counted : State → State → State
counted s t = cond (same_state s t) s (record t { serial = s.serial + 1 })

-- An answer whose state is counted.
abbrev pub numbered : State → Reply × State → Reply × State
numbered s a = (a.0, counted s a.1)
