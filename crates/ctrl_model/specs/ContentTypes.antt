-- The content type of each command (docs/FORMATS.md, "Commands").
use Rattle.std.specs.Prelude.{ℕ}
use Rattle.ctrl_model.specs.declared.commands.Command.{Command}
use Rattle.ctrl_model.specs.declared.commands.Command.TheVariants as command

-- The content type of the frames that are the command.
abbrev pub content_of : Command → ℕ
content_of command.Hello = 0
content_of (command.CreateIdentity name attributes) = 1000
content_of (command.UpdateIdentity name attributes) = 1001
content_of (command.DeleteIdentity name) = 1002
content_of (command.CreateService name attributes) = 1010
content_of (command.UpdateService name attributes) = 1011
content_of (command.DeleteService name) = 1012
content_of (command.CreateRouter name attributes cost no_traversal) = 1020
content_of (command.UpdateRouter name attributes cost no_traversal) = 1021
content_of (command.DeleteRouter name) = 1022
content_of (command.ConnectRouter name) = 1023
content_of (command.DisconnectRouter name) = 1024
content_of (command.CreateServicePolicy name relation semantic left right) = 1100
content_of (command.UpdateServicePolicy name relation semantic left right) = 1101
content_of (command.DeleteServicePolicy name) = 1102
content_of (command.CreateEdgeRouterPolicy name semantic left right) = 1110
content_of (command.UpdateEdgeRouterPolicy name semantic left right) = 1111
content_of (command.DeleteEdgeRouterPolicy name) = 1112
content_of (command.CreateServiceEdgeRouterPolicy name semantic left right) = 1120
content_of (command.UpdateServiceEdgeRouterPolicy name semantic left right) = 1121
content_of (command.DeleteServiceEdgeRouterPolicy name) = 1122
content_of (command.CreateLink name a b cost latency_a latency_b) = 1200
content_of (command.SetLinkCost link cost) = 1201
content_of (command.ReportLatency link router latency) = 1202
content_of (command.ReportState link router up) = 1203
content_of (command.DeleteLink link) = 1204
content_of (command.SetLeastRouterCost cost) = 1210
content_of (command.CreateTerminator service router instance host cost precedence) = 1300
content_of (command.UpdateTerminator n cost precedence) = 1301
content_of (command.DeleteTerminator n) = 1302
content_of (command.CreateCircuit identity service ingress instance) = 1400
content_of (command.DeleteCircuit n) = 1401
content_of (command.Explain identity service ingress instance) = 1402
content_of (command.VerifyRoute identity service ingress instance chosen links potentials routers terminator total) = 1403
content_of (command.ShowGrants identity) = 1500
content_of (command.ListServices identity) = 1501
content_of command.ShowCounts = 1502
content_of (command.ShowCircuit n) = 1503
content_of command.Compact = 1510
content_of (command.SetIntercept service intercept) = 1600
content_of (command.ClearIntercept service) = 1601
content_of (command.Pick identity udp address port) = 1610
content_of (command.ListClashes identity service) = 1611
