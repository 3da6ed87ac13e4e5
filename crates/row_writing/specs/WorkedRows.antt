-- Rows of the worked examples, one or two of each table (docs/FORMATS.md, "Rows").
use Rattle.std.specs.Prelude.{ℕ, true, false, List, [], ◌∷◌, codes, None, Some}
use Rattle.ctrl_model.specs.declared.addresses.Address.TheVariants.{Under, Range}
use Rattle.ctrl_model.specs.declared.formats.Format.{Format}
use Rattle.ctrl_model.specs.declared.kinds.Kind.TheVariants as kind
use Rattle.ctrl_model.specs.declared.kinds.Side.{Side}
use Rattle.ctrl_model.specs.declared.kinds.Semantic.TheVariants.{AnyOf, AllOf}
use Rattle.ctrl_model.specs.declared.kinds.Relation.TheVariants as relation
use Rattle.ctrl_model.specs.declared.kinds.Precedence.TheVariants.{Normal, Failed}
use Rattle.ctrl_model.specs.Tables.{Record}
use Rattle.ctrl_model.specs.WorkedStates.{everyone, only}
use Rattle.row_codec.specs.declared.rows.Row.{Row}
use Rattle.row_codec.specs.declared.rows.Row.TheVariants as row
use Rattle.row_codec.specs.RowKeys.{key_bytes}
use Rattle.row_codec.specs.RowForm.{key_of, value_of}

-- The bytes of a row's key and those of its value in a format.
abbrev pub spelled : Format → Row → List ℕ × List ℕ
spelled f r = (key_bytes (key_of r), value_of f r)

-- The next identity is 2.
abbrev pub next_identity : Row
next_identity = row.Next 1 2

-- The least router cost is 20.
abbrev pub cost_of_twenty : Row
cost_of_twenty = row.Setting 20

-- Identity 1, ann, with the attribute a.
abbrev pub ann : Row
ann = row.Identity (record { 0 = 1 }) (codes "ann") (codes "a" ∷ [])

-- Service 258, web, without attributes.
abbrev pub web : Row
web = row.Service (record { 0 = 258 }) (codes "web") []

-- The service web alone, under a number.
abbrev pub web_alone : ℕ → List (ℕ × Record kind.Service)
web_alone n = (n, record { name = codes "web"; attributes = [] }) ∷ []

-- Router 1, r1, of cost 300, which is connected, and through which no path may pass.
abbrev pub marked_router : Row
marked_router = row.Router (record { 0 = 1 }) (codes "r1") [] 300 false true

-- Link 2, l2, from router 2 to router 3, of cost 1, with latencies 5 and 6, which is up.
abbrev pub second_link : Row
second_link = row.Link (record { 0 = 2 }) (codes "l2") (record { 0 = 2 }) (record { 0 = 3 }) 1 5 6 true

-- A side with an `@` name and an attribute.
abbrev pub mixed : Side
mixed = record { all = false; ids = codes "w" ∷ []; attributes = codes "x" ∷ [] }

-- Service policy 1, p, which grants everyone Bind.
abbrev pub bind_policy : Row
bind_policy = row.ServicePolicy (record { 0 = 1 }) (codes "p") relation.Bind AllOf everyone mixed

-- Edge-router policy 3, e, from the identity a to every router.
abbrev pub edge_policy : Row
edge_policy = row.EdgeRouterPolicy (record { 0 = 3 }) (codes "e") AnyOf (only (codes "a")) everyone

-- Service-edge-router policy 1, s, from every service to every router.
abbrev pub service_edge_policy : Row
service_edge_policy = row.ServiceEdgeRouterPolicy (record { 0 = 1 }) (codes "s") AnyOf everyone everyone

-- Terminator 1 of service 1 on router 3, without a host and an instance, of cost 0 and default precedence.
abbrev pub plain_terminator : Row
plain_terminator = row.Terminator (record { 0 = 1 }) (record { 0 = 1 }) (record { 0 = 3 }) None [] 0 Normal

-- Terminator 2 of service 1 on router 4, hosted by identity 7, with the instance b, of cost 500 and failed precedence.
abbrev pub hosted_terminator : Row
hosted_terminator = row.Terminator (record { 0 = 2 }) (record { 0 = 1 }) (record { 0 = 4 }) (Some (record { 0 = 7 })) (codes "b") 500 Failed

-- Circuit 1 of identity 1 to service 1, from router 1 over links 1 and 2 to terminator 1.
abbrev pub first_circuit : Row
first_circuit = row.Circuit (record { 0 = 1 }) (record { 0 = 1 }) (record { 0 = 1 }) (record { 0 = 1 }) (record { 0 = 1 }) (1 ∷ 2 ∷ [])

-- Three policies grant identity 1 Dial on service 2.
abbrev pub dial_count : Row
dial_count = row.Dial (record { 0 = 1 }) (record { 0 = 2 }) 3

-- One policy grants identity 1 Bind on service 1.
abbrev pub bind_count : Row
bind_count = row.Bind (record { 0 = 1 }) (record { 0 = 1 }) 1

-- One policy grants identity 1 the router 256.
abbrev pub identity_router_count : Row
identity_router_count = row.IdentityRouter (record { 0 = 1 }) (record { 0 = 256 }) 1

-- 65,536 policies grant service 2 the router 3.
abbrev pub service_router_count : Row
service_router_count = row.ServiceRouter (record { 0 = 2 }) (record { 0 = 3 }) 65536

-- Service 1 claims what is under `example.org` over tcp at port 443.
abbrev pub web_intercept : Row
web_intercept = row.Intercept (record { 0 = 1 }) (record { tcp = true; udp = false; addresses = Under (codes "example.org") ∷ []; ports = record { low = 443; high = 443 } ∷ [] })

-- Service 2 claims a network over tcp at port 22.
abbrev pub api_intercept : Row
api_intercept = row.Intercept (record { 0 = 2 }) (record { tcp = true; udp = false; addresses = Range 167837696 16 ∷ []; ports = record { low = 22; high = 22 } ∷ [] })

-- 258 changes were kept.
abbrev pub serial : Row
serial = row.Serial 258

-- All rows of the first format.
abbrev pub worked_rows : List Row
worked_rows =
    next_identity ∷ cost_of_twenty ∷ ann ∷ web ∷ marked_router ∷ second_link ∷ bind_policy ∷ edge_policy ∷ service_edge_policy
    ∷ plain_terminator ∷ hosted_terminator ∷ first_circuit ∷ dial_count ∷ bind_count ∷ identity_router_count ∷ service_router_count ∷ []
