-- What a store of entities holds, as contracts see it: a table of each kind of entity, and the uses of attributes that are held
-- beside those of entities (docs/RULES.md, "Records and numbers").
use Rattle.std.specs.Prelude.{ℕ, Bool, true, false, List, [], map, None}
use Rattle.std.specs.declared.option.Option.{Option}
use Rattle.ctrl_model.specs.declared.kinds.Kind.{Kind}
use Rattle.ctrl_model.specs.declared.kinds.Kind.TheVariants as kind
use Rattle.ctrl_model.specs.Numbered.{Table, no_rows, with_new, with_edit, with_removed}
use Rattle.ctrl_model.specs.State.{Entity, Router, as_entity, entity_named, router_named}
pub use Rattle.ctrl_model.specs.Tables.{is_entity_kind}

-- The tables.
pub record Tables : Type 0 where
  pub identities : Table Entity
  pub services : Table Entity
  pub routers : Table Router
  pub held : List (List ℕ × ℕ)

-- A store without entities.
abbrev pub no_entities : Tables
no_entities = record { identities = no_rows; services = no_rows; routers = no_rows; held = [] }

-- The entities of a kind: routers by their names and attributes alone.
abbrev pub entities : Kind → Tables → List (ℕ × Entity)
entities kind.Identity t = t.identities.rows
entities kind.Service t = t.services.rows
entities kind.Router t = map (λ row. (row.0, as_entity row.1)) t.routers.rows
entities _ t = []

-- The number that the next entity of a kind gets.
abbrev pub next_of : Kind → Tables → ℕ
next_of kind.Identity t = t.identities.next
next_of kind.Service t = t.services.next
next_of kind.Router t = t.routers.next
next_of _ t = 1

-- The number of the entity of a kind that has a name, if one has it.
abbrev pub number_of : Kind → List ℕ → Tables → Option ℕ
number_of kind.Identity name t = entity_named t.identities.rows name
number_of kind.Service name t = entity_named t.services.rows name
number_of kind.Router name t = router_named t.routers.rows name
number_of _ name t = None

-- A router as it is made: it costs nothing to enter, may be passed through, and is not connected.
abbrev pub new_router : List ℕ → List (List ℕ) → Router
new_router name attributes = record { name = name; attributes = attributes; cost = 0; through = true; connected = false }

-- The tables with one more entity of a kind, under the next number.
abbrev pub with_entity : Kind → List ℕ → List (List ℕ) → Tables → Tables
with_entity kind.Identity name attributes t = record t { identities = with_new (record { name = name; attributes = attributes }) t.identities }
with_entity kind.Service name attributes t = record t { services = with_new (record { name = name; attributes = attributes }) t.services }
with_entity kind.Router name attributes t = record t { routers = with_new (new_router name attributes) t.routers }
with_entity _ name attributes t = t

-- The tables, of which one entity has other attributes.
abbrev pub with_attributes : Kind → ℕ → List (List ℕ) → Tables → Tables
with_attributes kind.Identity n attributes t = record t { identities = with_edit n (λ e. record e { attributes = attributes }) t.identities }
with_attributes kind.Service n attributes t = record t { services = with_edit n (λ e. record e { attributes = attributes }) t.services }
with_attributes kind.Router n attributes t = record t { routers = with_edit n (λ r. record r { attributes = attributes }) t.routers }
with_attributes _ n attributes t = t

-- The tables, of which one router has this cost and these marks.
abbrev pub with_router : ℕ → ℕ → Bool → Bool → Tables → Tables
with_router n cost through connected t = record t {
  routers = with_edit n (λ r. record r { cost = cost; through = through; connected = connected }) t.routers;
}

-- The tables without one entity.
abbrev pub without_entity : Kind → ℕ → Tables → Tables
without_entity kind.Identity n t = record t { identities = with_removed n t.identities }
without_entity kind.Service n t = record t { services = with_removed n t.services }
without_entity kind.Router n t = record t { routers = with_removed n t.routers }
without_entity _ n t = t

-- The tables with another next number of a kind.
abbrev pub with_next : Kind → ℕ → Tables → Tables
with_next kind.Identity next t = record t { identities = record t.identities { next = next } }
with_next kind.Service next t = record t { services = record t.services { next = next } }
with_next kind.Router next t = record t { routers = record t.routers { next = next } }
with_next _ next t = t
