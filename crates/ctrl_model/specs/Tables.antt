-- The tables of a state by kind: the records of a kind under their numbers, and the kind's next number (docs/RULES.md, "Records
-- and numbers").
use Rattle.std.specs.Prelude.{ℕ, Bool, true, false, ◌&&◌, nat_lt, ⊤, List, [], length}
use Rattle.std.specs.declared.option.Option.{Option}
use Rattle.std.specs.Str.{bytes_eq}
use Rattle.ctrl_model.specs.declared.kinds.Kind.{Kind}
use Rattle.ctrl_model.specs.declared.kinds.Kind.TheVariants as kind
use Rattle.ctrl_model.specs.Limits.{last_next}
use Rattle.ctrl_model.specs.Numbered.{Table, no_rows, first_where}
use Rattle.ctrl_model.specs.State.{State, Entity, Router, Link, Policy, Terminator, Circuit}

-- What the records of a kind are. Attributes have no records.
abbrev pub Record : Kind → Type 0
Record kind.Identity = Entity
Record kind.Service = Entity
Record kind.Router = Router
Record kind.Link = Link
Record kind.ServicePolicy = Policy
Record kind.EdgeRouterPolicy = Policy
Record kind.ServiceEdgeRouterPolicy = Policy
Record kind.Terminator = Terminator
Record kind.Circuit = Circuit
Record kind.Attribute = ⊤

-- The table of a kind.
abbrev pub table : (k : Kind) → State → Table (Record k)
table kind.Identity s = s.identities
table kind.Service s = s.services
table kind.Router s = s.routers
table kind.Link s = s.links
table kind.ServicePolicy s = s.service_policies
table kind.EdgeRouterPolicy s = s.edge_router_policies
table kind.ServiceEdgeRouterPolicy s = s.service_edge_router_policies
table kind.Terminator s = s.terminators
table kind.Circuit s = s.circuits
table kind.Attribute s = no_rows

-- The state with another table of a kind.
abbrev pub with_table : (k : Kind) → Table (Record k) → State → State
with_table kind.Identity t s = record s { identities = t }
with_table kind.Service t s = record s { services = t }
with_table kind.Router t s = record s { routers = t }
with_table kind.Link t s = record s { links = t }
with_table kind.ServicePolicy t s = record s { service_policies = t }
with_table kind.EdgeRouterPolicy t s = record s { edge_router_policies = t }
with_table kind.ServiceEdgeRouterPolicy t s = record s { service_edge_router_policies = t }
with_table kind.Terminator t s = record s { terminators = t }
with_table kind.Circuit t s = record s { circuits = t }
with_table kind.Attribute t s = s

-- Whether a kind is one of entities: of identities, services or routers.
abbrev pub is_entity_kind : Kind → Bool
is_entity_kind kind.Identity = true
is_entity_kind kind.Service = true
is_entity_kind kind.Router = true
is_entity_kind k = false

-- Whether a kind is one of policies.
abbrev pub is_policy_kind : Kind → Bool
is_policy_kind kind.ServicePolicy = true
is_policy_kind kind.EdgeRouterPolicy = true
is_policy_kind kind.ServiceEdgeRouterPolicy = true
is_policy_kind k = false

-- Whether the records of a kind have names.
abbrev pub has_names : Kind → Bool
has_names kind.Terminator = false
has_names kind.Circuit = false
has_names kind.Attribute = false
has_names k = true

-- The name of a record; none has the empty one.
abbrev pub record_name : (k : Kind) → Record k → List ℕ
record_name kind.Identity e = e.name
record_name kind.Service e = e.name
record_name kind.Router r = r.name
record_name kind.Link l = l.name
record_name kind.ServicePolicy p = p.name
record_name kind.EdgeRouterPolicy p = p.name
record_name kind.ServiceEdgeRouterPolicy p = p.name
record_name kind.Terminator e = []
record_name kind.Circuit c = []
record_name kind.Attribute u = []

-- The number of the record of a kind that has a name, if one has it.
abbrev pub named : (k : Kind) → State → List ℕ → Option ℕ
named k s name = first_where (λ r. bytes_eq (record_name k r) name) (table k s).rows

-- A table has room for one more record: fewer than its limit are present, and its numbers have not run out.
abbrev pub has_room : {R : Type 0} → ℕ → Table R → Bool
has_room most t = nat_lt (length t.rows) most && nat_lt t.next last_next

-- The kind of entity that stands on the left of a kind of policy.
abbrev pub left_kind : Kind → Kind
left_kind kind.ServicePolicy = kind.Identity
left_kind kind.EdgeRouterPolicy = kind.Identity
left_kind kind.ServiceEdgeRouterPolicy = kind.Service
left_kind k = k

-- The kind of entity that stands on its right.
abbrev pub right_kind : Kind → Kind
right_kind kind.ServicePolicy = kind.Service
right_kind kind.EdgeRouterPolicy = kind.Router
right_kind kind.ServiceEdgeRouterPolicy = kind.Router
right_kind k = k
