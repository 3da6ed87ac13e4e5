-- A refused command leaves the state: for each command, its reply is a refusal only where the state is the old one.
use Rattle.std.proofs.Common.{ℕ, Option, None, refl}
use Rattle.ctrl_model.specs.declared.commands.Command.{Command}
use Rattle.ctrl_model.specs.declared.commands.Command.TheVariants as command
use Rattle.ctrl_model.specs.declared.kinds.Who.{Who}
use Rattle.ctrl_model.specs.declared.refusals.Refusal.{Refusal}
use Rattle.ctrl_model.specs.declared.refusals.Refusal.TheVariants.{NotPermitted, Denied}
use Rattle.ctrl_model.specs.declared.replies.Reply.TheVariants.{Refused, Done, Made}
use Rattle.ctrl_model.specs.State.{State}
use Rattle.ctrl_model.specs.Settling.{settle}
use Rattle.ctrl_model.specs.Networks.{network_of}
use Rattle.ctrl_model.specs.Rules.{carried_out}
use Rattle.ctrl_model.specs.Permitted.{is_permitted}
use Rattle.ctrl_model.specs.Choices.{Ask, Candidate, first_rule, best}
use Rattle.ctrl_model.specs.CircuitCommands.{ask_of, create_circuit, after_create_circuit, explain, granted_reply}
use Rattle.ctrl_model.specs.Controller.{carry, answer}
use Rattle.model_laws.proofs.RefusalLaws.{LeavesIfRefused, carried_out-leaves, shown-leaves, cond-holds, decided-holds}

done : (o : Option Refusal) (s effect : State) → LeavesIfRefused s (carried_out o s Done effect)
done o s effect = carried_out-leaves o s Done effect (λ r e. cc)

made : (o : Option Refusal) (n : ℕ) (s effect : State) → LeavesIfRefused s (carried_out o s (Made n) effect)
made o n s effect = carried_out-leaves o s (Made n) effect (λ r e. cc)

granted : (c : Candidate) (s t : State) → LeavesIfRefused s (granted_reply c s, t)
granted c s t r e = cc

create_circuit-leaves : (ask : Ask) (s : State) → LeavesIfRefused s (create_circuit ask s)
create_circuit-leaves ask s = decided-holds (LeavesIfRefused s) (first_rule (network_of s) ask) (best (network_of s) ask)
    (λ d. (Refused (Denied d), s)) (λ c. (granted_reply c s, settle (after_create_circuit ask c s))) (λ d r e. refl) (λ c none. granted c s _)

explain-leaves : (ask : Ask) (s : State) → LeavesIfRefused s (explain ask s)
explain-leaves ask s = decided-holds (LeavesIfRefused s) (first_rule (network_of s) ask) (best (network_of s) ask)
    (λ d. (Refused (Denied d), s)) _ (λ d r e. refl) (λ c none r e. refl)

carry-leaves : (c : Command) (s : State) → LeavesIfRefused s (carry c s)
carry-leaves command.Hello s = λ r e. refl
carry-leaves (command.CreateIdentity name attributes) s = made _ _ s _
carry-leaves (command.UpdateIdentity name attributes) s = done _ s _
carry-leaves (command.DeleteIdentity name) s = done _ s _
carry-leaves (command.CreateService name attributes) s = made _ _ s _
carry-leaves (command.UpdateService name attributes) s = done _ s _
carry-leaves (command.DeleteService name) s = done _ s _
carry-leaves (command.CreateRouter name attributes cost no_traversal) s = made _ _ s _
carry-leaves (command.UpdateRouter name attributes cost no_traversal) s = done _ s _
carry-leaves (command.DeleteRouter name) s = done _ s _
carry-leaves (command.ConnectRouter name) s = done _ s _
carry-leaves (command.DisconnectRouter name) s = done _ s _
carry-leaves (command.CreateServicePolicy name relation semantic left right) s = made _ _ s _
carry-leaves (command.UpdateServicePolicy name relation semantic left right) s = done _ s _
carry-leaves (command.DeleteServicePolicy name) s = done _ s _
carry-leaves (command.CreateEdgeRouterPolicy name semantic left right) s = made _ _ s _
carry-leaves (command.UpdateEdgeRouterPolicy name semantic left right) s = done _ s _
carry-leaves (command.DeleteEdgeRouterPolicy name) s = done _ s _
carry-leaves (command.CreateServiceEdgeRouterPolicy name semantic left right) s = made _ _ s _
carry-leaves (command.UpdateServiceEdgeRouterPolicy name semantic left right) s = done _ s _
carry-leaves (command.DeleteServiceEdgeRouterPolicy name) s = done _ s _
carry-leaves (command.CreateLink name a b cost latency_a latency_b) s = made _ _ s _
carry-leaves (command.SetLinkCost link cost) s = done _ s _
carry-leaves (command.ReportLatency link router latency) s = done _ s _
carry-leaves (command.ReportState link router up) s = done _ s _
carry-leaves (command.DeleteLink link) s = done _ s _
carry-leaves (command.SetLeastRouterCost cost) s = done None s (record s { least_router_cost = cost })
carry-leaves (command.CreateTerminator service router instance host cost precedence) s = made _ _ s _
carry-leaves (command.UpdateTerminator n cost precedence) s = done _ s _
carry-leaves (command.DeleteTerminator n) s = done _ s _
carry-leaves (command.CreateCircuit identity service ingress instance) s = create_circuit-leaves (ask_of identity service ingress instance s) s
carry-leaves (command.DeleteCircuit n) s = done _ s _
carry-leaves (command.Explain identity service ingress instance) s = explain-leaves (ask_of identity service ingress instance s) s
carry-leaves (command.VerifyRoute identity service ingress instance chosen links potentials routers terminator total) s = λ r e. refl
carry-leaves (command.ShowGrants identity) s = λ r e. shown-leaves _ s _
carry-leaves (command.ListServices identity) s = λ r e. shown-leaves _ s _
carry-leaves command.ShowCounts s = λ r e. refl
carry-leaves (command.ShowCircuit n) s = λ r e. shown-leaves _ s _
carry-leaves command.Compact s = λ r e. refl
carry-leaves (command.SetIntercept service intercept) s = done _ s _
carry-leaves (command.ClearIntercept service) s = done _ s _
carry-leaves (command.Pick identity udp address port) s = λ r e. shown-leaves _ s _
carry-leaves (command.ListClashes identity service) s = λ r e. shown-leaves _ s _

pub answer-leaves : (who : Who) (c : Command) (s : State) → LeavesIfRefused s (answer who c s)
answer-leaves who c s = cond-holds (LeavesIfRefused s) (is_permitted who c) (carry c s) (Refused NotPermitted, s) (carry-leaves c s) (λ r e. refl)
