-- What a command on entities changes: in a state, and in the tables of the entities alone (docs/PROMISES.md, "Commands on entities").
use Rattle.std.specs.Prelude.{◌≡◌, ⊤, ℕ, Bool, true, false, not, List, [], Some, Ok}
use Rattle.ctrl_model.specs.declared.kinds.Kind.{Kind}
use Rattle.ctrl_model.specs.declared.kinds.Kind.TheVariants as kind
use Rattle.ctrl_model.specs.ValueForms.{is_cost}
use Rattle.ctrl_model.specs.Numbered.{is_present}
use Rattle.ctrl_model.specs.State.{State}
use Rattle.ctrl_model.specs.Tables.{table, named, is_entity_kind}
use Rattle.ctrl_model.specs.RecordCommands.{after_create, after_edit, after_remove, forgotten, without_intercept}
use Rattle.ctrl_model.specs.EntityCommands.{entity, described, new_router}
use Rattle.entity_store.specs.declared.changes.EntityChange.{EntityChange}
use Rattle.entity_store.specs.declared.changes.EntityChange.TheVariants as change
pub use Rattle.entity_store.specs.EntityChanges.{after_entity_change}
use Rattle.entity_store.specs.EntityTables.{Tables}
use Rattle.entity_store.specs.AttributeUses.{has_attribute_room}
use Rattle.entity_store.specs.TableRules.{may_add, is_there, attributes_at}

-- The kinds of entity that have a name and attributes alone.
abbrev pub is_plain_kind : Kind → Bool
is_plain_kind kind.Identity = true
is_plain_kind kind.Service = true
is_plain_kind _ = false

-- The state with one more identity or service.
abbrev pub with_plain : Kind → List ℕ → List (List ℕ) → State → State
with_plain kind.Identity name attributes s = after_create kind.Identity (entity name attributes) s
with_plain kind.Service name attributes s = after_create kind.Service (entity name attributes) s
with_plain _ name attributes s = s

-- The state, of which one identity or service has other attributes.
abbrev pub with_described : Kind → ℕ → List (List ℕ) → State → State
with_described kind.Identity n attributes s = after_edit kind.Identity n (described attributes) s
with_described kind.Service n attributes s = after_edit kind.Service n (described attributes) s
with_described _ n attributes s = s

-- The state, of which one router has other attributes, another cost and other marks.
abbrev pub with_described_router : ℕ → List (List ℕ) → ℕ → Bool → Bool → State → State
with_described_router n attributes cost through connected s =
    after_edit kind.Router n (λ r. record r { attributes = attributes; cost = cost; through = through; connected = connected }) s

-- The state, of which one router has another cost and other marks.
abbrev pub with_marked : ℕ → ℕ → Bool → Bool → State → State
with_marked n cost through connected s =
    after_edit kind.Router n (λ r. record r { cost = cost; through = through; connected = connected }) s

-- The state without one entity, whose name no side has any more, and without its intercept where it is a service.
abbrev pub without_named : Kind → ℕ → List ℕ → State → State
without_named k n name s = forgotten k name (without_intercept k n (after_remove k n s))

-- The state after a change of its entities, not yet settled.
abbrev pub entered : EntityChange → State → State
entered (change.Add k name attributes) s = with_plain k name attributes s
entered (change.AddRouter name attributes cost through) s = after_create kind.Router (new_router name attributes cost (not through)) s
entered (change.Describe k n attributes) s = with_described k n attributes s
entered (change.DescribeRouter n attributes cost through connected) s = with_described_router n attributes cost through connected s
entered (change.Mark n cost through connected) s = with_marked n cost through connected s
entered (change.Remove k n name) s = without_named k n name s

-- What a change needs of a state: that its kind fits it, that the entity that it changes is there, and that the one that it removes
-- has the name.
abbrev pub CanEnter : EntityChange → State → Type 0
CanEnter (change.Add k name attributes) s = is_plain_kind k ≡ true
CanEnter (change.AddRouter name attributes cost through) s = ⊤
CanEnter (change.Describe k n attributes) s = (is_plain_kind k ≡ true) × (is_present (table k s).rows n ≡ true)
CanEnter (change.DescribeRouter n attributes cost through connected) s = is_present s.routers.rows n ≡ true
CanEnter (change.Mark n cost through connected) s = is_present s.routers.rows n ≡ true
CanEnter (change.Remove k n name) s = (is_entity_kind k ≡ true) × (named k s name ≡ Some n)

-- What a change needs of the entities: that its kind fits it, that an entity that is added may be and one that is changed or removed
-- is there, that there is room for its attributes, and that each cost is in its range.
abbrev pub CanChangeEntities : EntityChange → Tables → Type 0
CanChangeEntities (change.Add k name attributes) t =
    (is_plain_kind k ≡ true) × (may_add k name t ≡ Ok tt) × (has_attribute_room t [] attributes ≡ true)
CanChangeEntities (change.AddRouter name attributes cost through) t =
    (may_add kind.Router name t ≡ Ok tt) × (has_attribute_room t [] attributes ≡ true) × (is_cost cost ≡ true)
CanChangeEntities (change.Describe k n attributes) t =
    (is_plain_kind k ≡ true) × (is_there k n t ≡ true) × (has_attribute_room t (attributes_at k n t) attributes ≡ true)
CanChangeEntities (change.DescribeRouter n attributes cost through connected) t =
    (is_there kind.Router n t ≡ true) × (has_attribute_room t (attributes_at kind.Router n t) attributes ≡ true) × (is_cost cost ≡ true)
CanChangeEntities (change.Mark n cost through connected) t = (is_there kind.Router n t ≡ true) × (is_cost cost ≡ true)
CanChangeEntities (change.Remove k n name) t = (is_entity_kind k ≡ true) × (is_there k n t ≡ true)
