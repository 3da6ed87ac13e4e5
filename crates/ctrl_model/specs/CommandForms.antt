-- The content type of each command, the form of its body, and the command that is made of the values of its fields (docs/FORMATS.md,
-- "Commands"). Hello alone is not among them: its body is not read.
use Rattle.std.specs.Prelude.{ℕ, ◌==◌, if◌then◌else◌, false, List, [], ◌∷◌, ◌++◌, None, Some}
use Rattle.std.specs.declared.option.Option.{Option}
use Rattle.ctrl_model.specs.declared.commands.Command.TheVariants as command
use Rattle.ctrl_model.specs.declared.kinds.Kind.TheVariants as kind
use Rattle.ctrl_model.specs.declared.kinds.Precedence.TheVariants.{Normal}
use Rattle.ctrl_model.specs.declared.refusals.Field.{Field}
use Rattle.ctrl_model.specs.declared.refusals.Field.TheVariants as field
use Rattle.ctrl_model.specs.Limits.{limit, longest_path}
use Rattle.ctrl_model.specs.declared.value_kinds.ValueKind.TheVariants as value
use Rattle.ctrl_model.specs.BodyForms.{Form, Makes, needs, may_have}
use Rattle.ctrl_model.specs.ValueKinds.{cost, latency, link_cost, number_of_record, port, total}

-- ---- forms

-- One name, in this field.
abbrev pub name_in : Field → Form
name_in of_field = needs value.Name of_field ∷ []

-- The number of a record.
abbrev pub record_number : Form
record_number = needs number_of_record field.No ∷ []

-- An identity or a service that is made: attributes may be left out.
abbrev pub made : Form
made = needs value.Name field.Name ∷ may_have value.Attributes [] field.Attributes ∷ []

-- One that is updated.
abbrev pub updated : Form
updated = needs value.Name field.Name ∷ needs value.Attributes field.Attributes ∷ []

-- A router that is made: all but the name may be left out.
abbrev pub made_router : Form
made_router =
    needs value.Name field.Name ∷ may_have value.Attributes [] field.Attributes ∷ may_have cost 0 field.Cost ∷ may_have value.Flag false field.NoTraversal ∷ []

-- A router that is updated.
abbrev pub updated_router : Form
updated_router = needs value.Name field.Name ∷ needs value.Attributes field.Attributes ∷ needs cost field.Cost ∷ needs value.Flag field.NoTraversal ∷ []

-- A service policy.
abbrev pub service_policy : Form
service_policy =
    needs value.Name field.Name ∷ needs value.Relation field.PolicyType ∷ needs value.Semantic field.Semantic ∷ needs value.Side field.IdentityRoles
    ∷ needs value.Side field.ServiceRoles ∷ []

-- A policy that gives routers to what the side in this field matches.
abbrev pub router_policy : Field → Form
router_policy of_left = needs value.Name field.Name ∷ needs value.Semantic field.Semantic ∷ needs value.Side of_left ∷ needs value.Side field.RouterRoles ∷ []

-- A link that is made: the cost and the latencies may be left out.
abbrev pub made_link : Form
made_link =
    needs value.Name field.Name ∷ needs value.Name field.A ∷ needs value.Name field.B ∷ may_have link_cost 1 field.Cost ∷ may_have latency 0 field.LatencyA
    ∷ may_have latency 0 field.LatencyB ∷ []

-- A terminator that is made: all but the service and the router may be left out.
abbrev pub made_terminator : Form
made_terminator =
    needs value.Name field.Service ∷ needs value.Name field.Router ∷ may_have value.Instance [] field.Instance ∷ may_have value.NameOrNone None field.Host
    ∷ may_have cost 0 field.Cost ∷ may_have value.Precedence Normal field.Precedence ∷ []

-- A request of a circuit: the ingress and the instance may be left out.
abbrev pub request : Form
request =
    needs value.Name field.Identity ∷ needs value.Name field.Service ∷ may_have value.NameOrNone None field.Ingress ∷ may_have value.Instance [] field.Instance ∷ []

-- A route that is claimed for such a request.
abbrev pub claim : Form
claim =
    needs value.Name field.Identity ∷ needs value.Name field.Service ∷ may_have value.NameOrNone None field.Ingress ∷ may_have value.Instance [] field.Instance
    ∷ needs value.Name field.Chosen ∷ needs (value.Numbers longest_path) field.Links ∷ needs value.Potentials field.Potentials
    ∷ needs (value.Numbers (limit kind.Router)) field.Routers ∷ needs number_of_record field.Terminator ∷ needs total field.Total ∷ []

-- An intercept that is set.
abbrev pub intercept : Form
intercept =
    needs value.Name field.Service ∷ needs value.Protocols field.Protocols ∷ needs value.Addresses field.Addresses ∷ needs value.Ranges field.Ports ∷ []

-- A destination whose service is picked.
abbrev pub destination : Form
destination =
    needs value.Name field.Identity ∷ needs value.Protocol field.Protocol ∷ needs value.Destination field.Address ∷ needs port field.Port ∷ []

-- ---- the commands

-- A content type, with the form of its bodies and what makes its command.
pub record Row : Type 0 where
  pub content : ℕ
  pub form : Form
  pub make : Makes form

-- A row.
abbrev pub row : ℕ → (form : Form) → Makes form → Row
row content form make = record { content = content; form = form; make = make }

-- The commands on identities, services and edge routers.
abbrev pub entity_rows : List Row
entity_rows =
    row 1000 made command.CreateIdentity
    ∷ row 1001 updated command.UpdateIdentity
    ∷ row 1002 (name_in field.Name) command.DeleteIdentity
    ∷ row 1010 made command.CreateService
    ∷ row 1011 updated command.UpdateService
    ∷ row 1012 (name_in field.Name) command.DeleteService
    ∷ row 1020 made_router command.CreateRouter
    ∷ row 1021 updated_router command.UpdateRouter
    ∷ row 1022 (name_in field.Name) command.DeleteRouter
    ∷ row 1023 (name_in field.Name) command.ConnectRouter
    ∷ row 1024 (name_in field.Name) command.DisconnectRouter
    ∷ []

-- Those on policies.
abbrev pub policy_rows : List Row
policy_rows =
    row 1100 service_policy command.CreateServicePolicy
    ∷ row 1101 service_policy command.UpdateServicePolicy
    ∷ row 1102 (name_in field.Name) command.DeleteServicePolicy
    ∷ row 1110 (router_policy field.IdentityRoles) command.CreateEdgeRouterPolicy
    ∷ row 1111 (router_policy field.IdentityRoles) command.UpdateEdgeRouterPolicy
    ∷ row 1112 (name_in field.Name) command.DeleteEdgeRouterPolicy
    ∷ row 1120 (router_policy field.ServiceRoles) command.CreateServiceEdgeRouterPolicy
    ∷ row 1121 (router_policy field.ServiceRoles) command.UpdateServiceEdgeRouterPolicy
    ∷ row 1122 (name_in field.Name) command.DeleteServiceEdgeRouterPolicy
    ∷ []

-- Those on links and on the least router cost.
abbrev pub link_rows : List Row
link_rows =
    row 1200 made_link command.CreateLink
    ∷ row 1201 (needs value.Name field.Link ∷ needs link_cost field.Cost ∷ []) command.SetLinkCost
    ∷ row 1202 (needs value.Name field.Link ∷ needs value.Name field.Router ∷ needs latency field.Latency ∷ []) command.ReportLatency
    ∷ row 1203 (needs value.Name field.Link ∷ needs value.Name field.Router ∷ needs value.Flag field.Up ∷ []) command.ReportState
    ∷ row 1204 (name_in field.Link) command.DeleteLink
    ∷ row 1210 (needs link_cost field.Cost ∷ []) command.SetLeastRouterCost
    ∷ []

-- Those on terminators.
abbrev pub terminator_rows : List Row
terminator_rows =
    row 1300 made_terminator command.CreateTerminator
    ∷ row 1301 (needs number_of_record field.No ∷ needs cost field.Cost ∷ needs value.Precedence field.Precedence ∷ []) command.UpdateTerminator
    ∷ row 1302 record_number command.DeleteTerminator
    ∷ []

-- Those on circuits and routes.
abbrev pub circuit_rows : List Row
circuit_rows =
    row 1400 request command.CreateCircuit
    ∷ row 1401 record_number command.DeleteCircuit
    ∷ row 1402 request command.Explain
    ∷ row 1403 claim command.VerifyRoute
    ∷ row 1503 record_number command.ShowCircuit
    ∷ []

-- Those that show grants, services and counts, and Compact.
abbrev pub show_rows : List Row
show_rows =
    row 1500 (name_in field.Identity) command.ShowGrants
    ∷ row 1501 (name_in field.Identity) command.ListServices
    ∷ row 1502 [] command.ShowCounts
    ∷ row 1510 [] command.Compact
    ∷ []

-- Those on intercepts.
abbrev pub intercept_rows : List Row
intercept_rows =
    row 1600 intercept (λ service protocols addresses ports.
    command.SetIntercept service (record { tcp = protocols.tcp; udp = protocols.udp; addresses = addresses; ports = ports }))
    ∷ row 1601 (name_in field.Service) command.ClearIntercept
    ∷ row 1610 destination command.Pick
    ∷ row 1611 (needs value.Name field.Identity ∷ needs value.Name field.Service ∷ []) command.ListClashes
    ∷ []

-- All of them.
abbrev pub all_rows : List Row
all_rows = entity_rows ++ (policy_rows ++ (link_rows ++ (terminator_rows ++ (circuit_rows ++ (show_rows ++ intercept_rows)))))

-- What rows have at a content type, if it is among them.
abbrev pub row_in : List Row → ℕ → Option Row
row_in [] content = None
row_in (r ∷ rs) content = if r.content == content then Some r else row_in rs content

-- The row of a content type, if it is that of a command.
abbrev pub row_at : ℕ → Option Row
row_at content = row_in all_rows content

-- The form of a row, if there is one.
abbrev pub form_under : Option Row → Form
form_under None = []
form_under (Some r) = r.form

-- The form of the bodies under a content type. Hello has no fields.
abbrev pub form_at : ℕ → Form
form_at content = form_under (row_at content)
