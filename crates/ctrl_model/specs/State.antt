-- The state of a controller: its records by kind, the next number of each kind, the one setting, the intercepts of services, and
-- the serial (docs/RULES.md, "Records and numbers"). It holds no grants and no indexes: all else is computed from it.
use Rattle.std.specs.Prelude.{ℕ, Bool, List, []}
use Rattle.std.specs.declared.option.Option.{Option}
use Rattle.std.specs.Str.{bytes_eq}
use Rattle.ctrl_model.specs.declared.kinds.Side.{Side}
use Rattle.ctrl_model.specs.declared.kinds.Semantic.{Semantic}
use Rattle.ctrl_model.specs.declared.kinds.Relation.{Relation}
use Rattle.ctrl_model.specs.declared.kinds.Precedence.{Precedence}
use Rattle.ctrl_model.specs.declared.intercepts.Intercept.{Intercept}
use Rattle.ctrl_model.specs.Numbered.{Table, no_rows, first_where}

-- An identity or a service: its name and its attributes.
pub record Entity : Type 0 where
  pub name : List ℕ
  pub attributes : List (List ℕ)

-- An edge router: as an entity; what a path pays to enter it; whether a path may pass through it; whether it is connected.
pub record Router : Type 0 where
  pub name : List ℕ
  pub attributes : List (List ℕ)
  pub cost : ℕ
  pub through : Bool
  pub connected : Bool

-- A link between two routers: its static cost, the latencies that its two ends report, and whether it is up.
pub record Link : Type 0 where
  pub name : List ℕ
  pub a : ℕ
  pub b : ℕ
  pub cost : ℕ
  pub latency_a : ℕ
  pub latency_b : ℕ
  pub up : Bool

-- A policy: what it grants, how its sides take attributes, and its two sides.
pub record Policy : Type 0 where
  pub name : List ℕ
  pub relation : Relation
  pub semantic : Semantic
  pub left : Side
  pub right : Side

-- A terminator: where a service is offered, by which host if by one, at which cost and precedence.
pub record Terminator : Type 0 where
  pub service : ℕ
  pub router : ℕ
  pub instance : List ℕ
  pub host : Option ℕ
  pub cost : ℕ
  pub precedence : Precedence

-- A circuit: who uses which service at which terminator, from which router on and over which links.
pub record Circuit : Type 0 where
  pub identity : ℕ
  pub service : ℕ
  pub terminator : ℕ
  pub ingress : ℕ
  pub links : List ℕ

-- The state: a table for each kind, the least cost of entering a router, the intercepts, each under the number of its service, and
-- how many changes were kept.
pub record State : Type 0 where
  pub identities : Table Entity
  pub services : Table Entity
  pub routers : Table Router
  pub links : Table Link
  pub service_policies : Table Policy
  pub edge_router_policies : Table Policy
  pub service_edge_router_policies : Table Policy
  pub terminators : Table Terminator
  pub circuits : Table Circuit
  pub least_router_cost : ℕ
  pub intercepts : List (ℕ × Intercept)
  pub serial : ℕ

-- The state at the start: no records, each next number 1, the setting 10, no intercepts, and the serial 0.
abbrev pub start : State
start = record {
  identities = no_rows;
  services = no_rows;
  routers = no_rows;
  links = no_rows;
  service_policies = no_rows;
  edge_router_policies = no_rows;
  service_edge_router_policies = no_rows;
  terminators = no_rows;
  circuits = no_rows;
  least_router_cost = 10;
  intercepts = [];
  serial = 0;
}

-- The number of the identity or service that has a name, if one has it.
abbrev pub entity_named : List (ℕ × Entity) → List ℕ → Option ℕ
entity_named rows name = first_where (λ e. bytes_eq e.name name) rows

-- The number of the router that has a name.
abbrev pub router_named : List (ℕ × Router) → List ℕ → Option ℕ
router_named rows name = first_where (λ r. bytes_eq r.name name) rows

-- The number of the link that has a name.
abbrev pub link_named : List (ℕ × Link) → List ℕ → Option ℕ
link_named rows name = first_where (λ l. bytes_eq l.name name) rows

-- The number of the policy of a kind that has a name.
abbrev pub policy_named : List (ℕ × Policy) → List ℕ → Option ℕ
policy_named rows name = first_where (λ p. bytes_eq p.name name) rows

-- A router as an entity: its name and attributes.
abbrev pub as_entity : Router → Entity
as_entity r = record { name = r.name; attributes = r.attributes }
