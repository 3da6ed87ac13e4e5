-- What is present, as settling circuits asks, and which circuits stay beside it (docs/RULES.md, "Settling").
use Rattle.std.specs.Prelude.{◌≡◌, ℕ, Bool, List, map}
use Rattle.ctrl_model.specs.declared.kinds.RouterSeen.{RouterSeen}
use Rattle.ctrl_model.specs.Networks.{Network, seen}
use Rattle.ctrl_model.specs.Numbered.{numbers}
use Rattle.ctrl_model.specs.Settling.{circuit_granted, circuit_stays}
use Rattle.ctrl_model.specs.State.{Circuit}
use Rattle.entity_store.specs.EntityTables.{Tables}
use Rattle.grant_denorm.specs.CountsAfter.{count_after}
use Rattle.fabric_graph.specs.FabricTables.{FabricSeen}
use Rattle.fabric_graph.specs.Routers as fabric
use Rattle.terminators.specs.TermTables.{TermTables}
use Rattle.circuit_settling.specs.declared.granting.GrantsAfter.{GrantsAfter}
use Rattle.circuit_settling.specs.declared.going.Remaining.{Remaining}
use Rattle.circuit_settling.specs.declared.staying.Present.{Present}

-- The network of terminators, of links with the least router cost, and of routers: that of the links and the routers, with terminators.
-- Nothing else of a network matters to whether the links of a circuit are a path: it has no grants and no load.
abbrev pub network : TermTables → FabricSeen → List RouterSeen → Network
network t f routers = record (fabric.network f routers) { terminators = t.terminators.rows }

-- Whether a circuit stays in a network, beside the present identities and services, whatever its own number.
abbrev pub stays : Network → List ℕ → List ℕ → Circuit → Bool
stays w identities services c = circuit_stays w identities services (0, c)

-- The network of what is present.
abbrev pub network_in : Present → Network
network_in p = network p.terminators.now p.fabric.now p.routers.now

-- The network of what is present, with the grants of the four relations.
abbrev pub network_with : Present → GrantsAfter → Network
network_with p g =
    record (network_in p) { dial = count_after g.dial; bind = count_after g.bind; identity_router = count_after g.identity_router; service_router = count_after g.service_router }

-- Whether what granted a circuit stands beside what is present.
abbrev pub granted_beside : Present → GrantsAfter → Circuit → Bool
granted_beside p g c = circuit_granted (network_with p g) p.identities.now p.services.now (0, c)

-- Whether a circuit stays beside what is present.
abbrev pub stays_beside : Present → Circuit → Bool
stays_beside p c = stays (network_in p) p.identities.now p.services.now c

-- A circuit stays beside these entities, links and terminators.
abbrev pub stays_with : Tables → FabricSeen → TermTables → ℕ × Circuit → Bool
stays_with t f e row = stays (network e f (map seen t.routers.rows)) (numbers t.identities.rows) (numbers t.services.rows) row.1

-- Of these entities there remain the identities and services by their numbers, and the routers as routes see them.
pub record Remains (t : Tables) (r : Remaining) : Type 0 where
  pub identities_are : r.identities ≡ numbers t.identities.rows
  pub services_are : r.services ≡ numbers t.services.rows
  pub routers_are : r.routers.items ≡ map seen t.routers.rows
