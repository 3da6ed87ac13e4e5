-- What a change does to the numbers of a kind of entity, and to the routers as routes see them. Only private functions and proofs of
-- this crate cite this file.
use Rattle.std.specs.Prelude.{ℕ, Bool, true, false, not, ◌==◌, cond, List, [], ◌∷◌, ◌++◌, map, filter, Some, ⊤}
use Rattle.std.specs.declared.option.Option.{Option}
use Rattle.ctrl_model.specs.declared.kinds.Kind.{Kind}
use Rattle.ctrl_model.specs.declared.kinds.Kind.TheVariants as kind
use Rattle.ctrl_model.specs.declared.kinds.RouterSeen.{RouterSeen}
use Rattle.record_tables.specs.declared.turns.Turn.{Turn}
use Rattle.record_tables.specs.declared.turns.Turn.TheVariants.{Adds, Removes, Keeps}
use Rattle.entity_store.specs.declared.changes.EntityChange.{EntityChange}
use Rattle.entity_store.specs.declared.changes.EntityChange.TheVariants as change

-- Whether two kinds are one kind of entity.
abbrev pub is_one_kind : Kind → Kind → Bool
is_one_kind kind.Identity kind.Identity = true
is_one_kind kind.Service kind.Service = true
is_one_kind kind.Router kind.Router = true
is_one_kind _ _ = false

-- What a change does to the numbers of a kind, if there is one: it adds one, it removes one, or it keeps them.
abbrev pub turn_of : Kind → Option EntityChange → Turn ⊤
turn_of k (Some (change.Add added name attributes)) = cond (is_one_kind k added) (Adds tt) Keeps
turn_of k (Some (change.AddRouter name attributes cost through)) = cond (is_one_kind k kind.Router) (Adds tt) Keeps
turn_of k (Some (change.Remove gone n name)) = cond (is_one_kind k gone) (Removes n) Keeps
turn_of k _ = Keeps

-- A router as routes see it.
abbrev pub router_seen : ℕ → ℕ → Bool → Bool → RouterSeen
router_seen n cost through connected = record { no = record { 0 = n }; cost = cost; through = through; connected = connected }

-- The routers, of which one has this cost and these marks.
abbrev pub marked : RouterSeen → List RouterSeen → List RouterSeen
marked new routers = map (λ r. cond (r.no.0 == new.no.0) new r) routers

-- The routers after a change, as routes see them, of which the next number is that of one that is added.
abbrev pub routers_after : EntityChange → ℕ → List RouterSeen → List RouterSeen
routers_after (change.Add kind.Router name attributes) next routers = routers ++ router_seen next 0 true false ∷ []
routers_after (change.AddRouter name attributes cost through) next routers = routers ++ router_seen next cost through false ∷ []
routers_after (change.DescribeRouter n attributes cost through connected) next routers = marked (router_seen n cost through connected) routers
routers_after (change.Mark n cost through connected) next routers = marked (router_seen n cost through connected) routers
routers_after (change.Remove kind.Router n name) next routers = filter (λ r. not (r.no.0 == n)) routers
routers_after _ next routers = routers
