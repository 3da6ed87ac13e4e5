-- The row of the entity that a change touches (docs/PROMISES.md, "Rows and batches").
use Rattle.std.specs.Prelude.{◌≡◌, ℕ, true, false, None, Some}
use Rattle.std.specs.declared.option.Option.{Option}
use Rattle.std.specs.Option.{option_map}
use Rattle.ctrl_model.specs.declared.formats.Format.TheVariants.{Two}
use Rattle.ctrl_model.specs.declared.kinds.Kind.{Kind}
use Rattle.ctrl_model.specs.declared.kinds.Kind.TheVariants as kind
use Rattle.ctrl_model.specs.Numbered.{at}
use Rattle.ctrl_model.specs.State.{State, Entity, Router, start}
use Rattle.entity_store.specs.declared.changes.EntityChange.{EntityChange}
use Rattle.entity_store.specs.declared.changes.EntityChange.TheVariants as change
use Rattle.entity_store.specs.EntityTables.{Tables, next_of}
use Rattle.entity_store.specs.HeldUses.{with_entities}
use Rattle.row_codec.specs.declared.changes.Change.{Change}
use Rattle.row_codec.specs.CoveredTables.{change_at}
use Rattle.row_codec.specs.RowKeys.{key_in}
use Rattle.row_codec.specs.RowKeys.RowTable.{Records}
use Rattle.row_laws.specs.FittingRecords.{fits}

-- Each entity fits its row.
pub record AreFit (t : Tables) : Type 0 where
  pub identities : (n : ℕ) (e : Entity) → at t.identities.rows n ≡ Some e → fits kind.Identity e ≡ true
  pub services : (n : ℕ) (e : Entity) → at t.services.rows n ≡ Some e → fits kind.Service e ≡ true
  pub routers : (n : ℕ) (r : Router) → at t.routers.rows n ≡ Some r → fits kind.Router r ≡ true

-- A state has the entities of these tables.
pub record Has (t : Tables) (s : State) : Type 0 where
  pub identities : s.identities ≡ t.identities
  pub services : s.services ≡ t.services
  pub routers : s.routers ≡ t.routers

-- The kind of the entity that a change touches.
abbrev pub touched_kind : EntityChange → Kind
touched_kind (change.Add k name attributes) = k
touched_kind (change.AddRouter name attributes cost through) = kind.Router
touched_kind (change.Describe k n attributes) = k
touched_kind (change.DescribeRouter n attributes cost through connected) = kind.Router
touched_kind (change.Mark n cost through connected) = kind.Router
touched_kind (change.Remove k n name) = k

-- The number of the entity that a change touches: the next one, where one is added.
abbrev pub touched_number : EntityChange → Tables → ℕ
touched_number (change.Add k name attributes) t = next_of k t
touched_number (change.AddRouter name attributes cost through) t = t.routers.next
touched_number (change.Describe k n attributes) t = n
touched_number (change.DescribeRouter n attributes cost through connected) t = n
touched_number (change.Mark n cost through connected) t = n
touched_number (change.Remove k n name) t = n

-- The identity or the service that a change touches as it will be, by what it is.
abbrev pub plain_after : EntityChange → Option Entity → Option Entity
plain_after (change.Add k name attributes) o = Some (record { name = name; attributes = attributes })
plain_after (change.Describe k n attributes) o = option_map {T = Entity} (λ e. record e { attributes = attributes }) o
plain_after _ o = None

-- The router that a change touches as it will be, by what it is.
abbrev pub router_after : EntityChange → Option Router → Option Router
router_after (change.AddRouter name attributes cost through) o =
    Some (record { name = name; attributes = attributes; cost = cost; through = through; connected = false })
router_after (change.DescribeRouter n attributes cost through connected) o =
    option_map {T = Router} (λ r. record r { attributes = attributes; cost = cost; through = through; connected = connected }) o
router_after (change.Mark n cost through connected) o = option_map {T = Router} (λ r. record r { cost = cost; through = through; connected = connected }) o
router_after _ o = None

-- The change of the row of a kind's entity under a number, which goes from some tables to others: the same in either format.
abbrev pub row_change : Kind → ℕ → Tables → Tables → Change
row_change k n t u = change_at Two (with_entities t start) (with_entities u start) (key_in (Records k) n 0)
