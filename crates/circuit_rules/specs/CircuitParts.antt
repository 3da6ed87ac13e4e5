-- The parts of a state that decide about circuits (docs/PROMISES.md, "Commands on circuits").
use Rattle.std.specs.Prelude.{◌≡◌, ℕ}
use Rattle.ctrl_model.specs.declared.kinds.Relation.TheVariants.{Dial, Bind, IdentityRouter, ServiceRouter}
use Rattle.ctrl_model.specs.Grants.{count}
use Rattle.ctrl_model.specs.Networks.{open_circuits}
use Rattle.ctrl_model.specs.State.{State}
use Rattle.ctrl_model.specs.ValidState.{ValidState}
use Rattle.circuits.specs.CircuitTables.{CircuitTables}
use Rattle.entity_store.specs.EntityTables.{Tables}
use Rattle.fabric_graph.specs.FabricTables.{FabricSeen}
use Rattle.grant_denorm.specs.MovedCounts.{AreCountsOf}
use Rattle.terminators.specs.TermTables.{TermTables, open_at}
use Rattle.circuit_rules.specs.declared.circuit_parts.Parts.{Parts}

-- A state with these circuits in place of its own.
abbrev pub with_circuits : CircuitTables → State → State
with_circuits k s = record s { circuits = k.circuits }

-- A state with these entities, links, terminators and circuits in place of its own.
abbrev pub over : Tables → FabricSeen → TermTables → CircuitTables → State → State
over t f e k s = with_circuits k (record s {
  identities = t.identities;
  services = t.services;
  routers = t.routers;
  links = f.links;
  least_router_cost = f.least;
  terminators = e.terminators;
})

-- A state with these parts in place of its own. Commands on circuits are judged by these parts and by the grant counts alone, so
-- what is said of all such states is said of the one whose parts they are.
abbrev pub with_parts : Parts → State → State
with_parts p s = over p.entities.now p.fabric.now p.terminators.now p.circuits.now s

-- The counts among the parts are the grant counts of a state, and the loads of its terminators.
pub record AreGrants (p : Parts) (s : State) : Type 0 where
  pub dial : AreCountsOf (count Dial s) p.dial.now
  pub bind : AreCountsOf (count Bind s) p.bind.now
  pub identity_router : AreCountsOf (count IdentityRouter s) p.identity_router.now
  pub service_router : AreCountsOf (count ServiceRouter s) p.service_router.now
  pub load : (n : ℕ) → open_at p.terminators.now n ≡ open_circuits s n

-- The parts are those of a valid state, and the counts its grant counts.
pub record AreParts (p : Parts) : Type 0 where
  pub state : State
  pub valid : ValidState (with_parts p state)
  pub grants : AreGrants p (with_parts p state)
