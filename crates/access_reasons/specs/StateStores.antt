-- Of which state the stores are that reasons are found in (docs/PROMISES.md, "Reasons").
use Rattle.std.specs.Prelude.{◌≡◌, ℕ, map}
use Rattle.ctrl_model.specs.declared.kinds.Relation.TheVariants.{Dial, Bind, IdentityRouter, ServiceRouter}
use Rattle.ctrl_model.specs.Grants.{count}
use Rattle.ctrl_model.specs.Networks.{Network, seen, open_circuits, circuits_full}
use Rattle.ctrl_model.specs.State.{State}
use Rattle.ctrl_model.specs.ValidState.{ValidState}
use Rattle.circuit_rules.specs.Views.{network_by}
use Rattle.grant_denorm.specs.MovedCounts.{AreCountsOf}
use Rattle.terminators.specs.TermTables.{open_at}
use Rattle.access_reasons.specs.declared.lending.Stores.{Stores}
use Rattle.access_reasons.specs.Reasons.{Facts}

-- The stores are those of a state.
pub record AreStoresOf (p : Stores) (s : State) : Type 0 where
  pub identities : p.entities.now.identities ≡ s.identities
  pub services : p.entities.now.services ≡ s.services
  pub routers : p.entities.now.routers ≡ s.routers
  pub service_policies : p.policies.now.service_policies ≡ s.service_policies
  pub links : p.fabric.now.links ≡ s.links
  pub least : p.fabric.now.least ≡ s.least_router_cost
  pub terminators : p.terminators.now.terminators ≡ s.terminators
  pub loads : (n : ℕ) → open_at p.terminators.now n ≡ open_circuits s n
  pub dial : AreCountsOf (count Dial s) p.dial.now
  pub bind : AreCountsOf (count Bind s) p.bind.now
  pub identity_router : AreCountsOf (count IdentityRouter s) p.identity_router.now
  pub service_router : AreCountsOf (count ServiceRouter s) p.service_router.now
  pub full : p.circuits_full ≡ circuits_full s

-- The stores are those of a valid state.
pub record AreOfValidState (p : Stores) : Type 0 where
  pub state : State
  pub valid : ValidState state
  pub stores : AreStoresOf p state

-- The network of the stores.
abbrev pub network_in : Stores → Network
network_in p =
    network_by (map seen p.entities.now.routers.rows) p.fabric.now p.terminators.now p.dial.now p.bind.now p.identity_router.now p.service_router.now p.circuits_full

-- The facts that the stores have.
abbrev pub facts_in : Stores → Facts
facts_in p = record {
  network = network_in p;
  identities = p.entities.now.identities.rows;
  services = p.entities.now.services.rows;
  routers = p.entities.now.routers.rows;
  policies = p.policies.now.service_policies.rows;
}
