-- The state that the stores of a core stand for, and the counts that they keep (docs/PROMISES.md, "The core").
use Rattle.std.specs.Prelude.{ℕ, List}
use Rattle.ctrl_model.specs.declared.kinds.Relation.{Relation}
use Rattle.ctrl_model.specs.declared.kinds.Relation.TheVariants.{Dial, Bind, IdentityRouter, ServiceRouter}
use Rattle.ctrl_model.specs.State.{State}
use Rattle.entity_store.specs.HeldUses as held_uses
use Rattle.core_stores.specs.declared.stores.Grants.{Grants}
use Rattle.core_stores.specs.declared.stores.Stores.{Stores}

-- The state of some stores.
abbrev pub state_of : Stores → State
state_of st = record {
  identities = st.entities.identities;
  services = st.entities.services;
  routers = st.entities.routers;
  links = st.fabric.links;
  service_policies = st.policies.service_policies;
  edge_router_policies = st.policies.edge_router_policies;
  service_edge_router_policies = st.policies.service_edge_router_policies;
  terminators = st.terminators.terminators;
  circuits = st.circuits.circuits;
  least_router_cost = st.fabric.least;
  intercepts = st.intercepts;
  serial = st.serial;
}

-- The counts that are kept of a relation.
abbrev pub counts_of : Relation → Grants → List ((ℕ × ℕ) × ℕ)
counts_of Dial g = g.dial
counts_of Bind g = g.bind
counts_of IdentityRouter g = g.identity_router
counts_of ServiceRouter g = g.service_router

-- The uses that are held beside those of entities are those of policies.
abbrev pub HoldsPolicies : Stores → Type 0
HoldsPolicies st = held_uses.HoldsPolicies st.entities (state_of st)
