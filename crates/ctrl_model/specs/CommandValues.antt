-- The values of the fields of a command, in the order of its form (docs/FORMATS.md, "Commands").
use Rattle.ctrl_model.specs.declared.commands.Command.{Command}
use Rattle.ctrl_model.specs.declared.commands.Command.TheVariants as command
use Rattle.ctrl_model.specs.BodyForms.{Form, Values, ◌&◌}
use Rattle.ctrl_model.specs.CommandForms.{form_at}
use Rattle.ctrl_model.specs.ContentTypes.{content_of}

-- The form of the body of a command.
abbrev pub form_of : Command → Form
form_of c = form_at (content_of c)

-- The values of the fields of a command, in the order of its form.
abbrev pub values_of : (c : Command) → Values (form_of c)
values_of command.Hello = tt
values_of (command.CreateIdentity name attributes) = name & attributes & tt
values_of (command.UpdateIdentity name attributes) = name & attributes & tt
values_of (command.DeleteIdentity name) = name & tt
values_of (command.CreateService name attributes) = name & attributes & tt
values_of (command.UpdateService name attributes) = name & attributes & tt
values_of (command.DeleteService name) = name & tt
values_of (command.CreateRouter name attributes cost no_traversal) = name & attributes & cost & no_traversal & tt
values_of (command.UpdateRouter name attributes cost no_traversal) = name & attributes & cost & no_traversal & tt
values_of (command.DeleteRouter name) = name & tt
values_of (command.ConnectRouter name) = name & tt
values_of (command.DisconnectRouter name) = name & tt
values_of (command.CreateServicePolicy name relation semantic left right) = name & relation & semantic & left & right & tt
values_of (command.UpdateServicePolicy name relation semantic left right) = name & relation & semantic & left & right & tt
values_of (command.DeleteServicePolicy name) = name & tt
values_of (command.CreateEdgeRouterPolicy name semantic left right) = name & semantic & left & right & tt
values_of (command.UpdateEdgeRouterPolicy name semantic left right) = name & semantic & left & right & tt
values_of (command.DeleteEdgeRouterPolicy name) = name & tt
values_of (command.CreateServiceEdgeRouterPolicy name semantic left right) = name & semantic & left & right & tt
values_of (command.UpdateServiceEdgeRouterPolicy name semantic left right) = name & semantic & left & right & tt
values_of (command.DeleteServiceEdgeRouterPolicy name) = name & tt
values_of (command.CreateLink name a b cost latency_a latency_b) = name & a & b & cost & latency_a & latency_b & tt
values_of (command.SetLinkCost link cost) = link & cost & tt
values_of (command.ReportLatency link router latency) = link & router & latency & tt
values_of (command.ReportState link router up) = link & router & up & tt
values_of (command.DeleteLink link) = link & tt
values_of (command.SetLeastRouterCost cost) = cost & tt
values_of (command.CreateTerminator service router instance host cost precedence) = service & router & instance & host & cost & precedence & tt
values_of (command.UpdateTerminator n cost precedence) = n & cost & precedence & tt
values_of (command.DeleteTerminator n) = n & tt
values_of (command.CreateCircuit identity service ingress instance) = identity & service & ingress & instance & tt
values_of (command.DeleteCircuit n) = n & tt
values_of (command.Explain identity service ingress instance) = identity & service & ingress & instance & tt
values_of (command.VerifyRoute identity service ingress instance chosen links potentials routers terminator total) =
    identity & service & ingress & instance & chosen & links & potentials & routers & terminator & total & tt
values_of (command.ShowGrants identity) = identity & tt
values_of (command.ListServices identity) = identity & tt
values_of command.ShowCounts = tt
values_of (command.ShowCircuit n) = n & tt
values_of command.Compact = tt
values_of (command.SetIntercept service i) = service & record { tcp = i.tcp; udp = i.udp } & i.addresses & i.ports & tt
values_of (command.ClearIntercept service) = service & tt
values_of (command.Pick identity udp address port) = identity & udp & address & port & tt
values_of (command.ListClashes identity service) = identity & service & tt
