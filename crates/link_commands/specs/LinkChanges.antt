-- What a command on links changes, in the links themselves and in a state (docs/PROMISES.md, "Commands on links").
use Rattle.std.specs.Prelude.{◌≡◌, true, Ok}
use Rattle.ctrl_model.specs.ValueForms.{is_link_cost, is_latency}
use Rattle.ctrl_model.specs.State.{State}
use Rattle.entity_store.specs.EntityTables.{Tables}
use Rattle.fabric_graph.specs.FabricChanges.{after_link_change}
use Rattle.fabric_graph.specs.FabricTables.{FabricSeen}
use Rattle.fabric_graph.specs.FabricRules.{may_add, is_there}
use Rattle.fabric_graph.specs.Routers.{fabric_of}
use Rattle.fabric_graph.specs.declared.changes.LinkChange.{LinkChange}
use Rattle.fabric_graph.specs.declared.changes.LinkChange.TheVariants as change

-- A state with these links and this least router cost in place of its own.
abbrev pub with_fabric : FabricSeen → State → State
with_fabric f s = record s { links = f.links; least_router_cost = f.least }

-- A state with the routers of these entities and with these links in place of its own. Commands on links are judged by these
-- alone, so what is said of all such states is said of the one whose parts they are.
abbrev pub over : Tables → FabricSeen → State → State
over t f s = with_fabric f (record s { routers = t.routers })

-- What a change needs of the links: a link that is added may be, one that is changed or removed is there, and every number is in
-- its range.
abbrev pub CanChangeLinks : LinkChange → FabricSeen → Type 0
CanChangeLinks (change.Add row) f =
    (may_add row.name row.a row.b f ≡ Ok tt)
    × (is_link_cost row.cost ≡ true) × (is_latency row.latency_a ≡ true) × (is_latency row.latency_b ≡ true)
CanChangeLinks (change.Set n cost latency_a latency_b up) f =
    (is_there n.0 f ≡ true) × (is_link_cost cost ≡ true) × (is_latency latency_a ≡ true) × (is_latency latency_b ≡ true)
CanChangeLinks (change.Remove n) f = is_there n.0 f ≡ true
CanChangeLinks (change.SetLeast cost) f = is_link_cost cost ≡ true

-- The state after a change of its links, not yet settled.
abbrev pub linked : LinkChange → State → State
linked c s = with_fabric (after_link_change c (fabric_of s)) s

-- What a change needs of a state.
abbrev pub CanLink : LinkChange → State → Type 0
CanLink c s = CanChangeLinks c (fabric_of s)
