-- A state around the tables of a store: its entities are those of the tables, and the uses that the store holds are those of its
-- policies (docs/PROMISES.md, "The store of entities").
use Rattle.std.specs.Prelude.{◌≡◌, ℕ, List, ◌++◌}
use Rattle.std.specs.List.{flat_map}
use Rattle.ctrl_model.specs.Rules.{side_attributes}
use Rattle.ctrl_model.specs.State.{State}
use Rattle.entity_store.specs.EntityTables.{Tables}
use Rattle.entity_store.specs.AttributeUses.{times, held_times}

-- A state with these entities in place of its own.
abbrev pub with_entities : Tables → State → State
with_entities t s = record s { identities = t.identities; services = t.services; routers = t.routers }

-- The attributes of all policies, with repeats.
abbrev pub policy_attributes : State → List (List ℕ)
policy_attributes s =
    flat_map side_attributes s.service_policies.rows
    ++ (flat_map side_attributes s.edge_router_policies.rows ++ flat_map side_attributes s.service_edge_router_policies.rows)

-- The uses that are held beside those of entities are those of a state's policies.
abbrev pub HoldsPolicies : Tables → State → Type 0
HoldsPolicies t s = (name : List ℕ) → held_times name t.held ≡ times name (policy_attributes s)
