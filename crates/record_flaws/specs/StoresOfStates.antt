-- Stores that keep what a state has (docs/PROMISES.md, "Flaws of records").
use Rattle.std.specs.Prelude.{◌≡◌}
use Rattle.ctrl_model.specs.State.{State}
use Rattle.entity_store.specs.EntityTables.{Tables}
use Rattle.entity_store.specs.HeldUses.{HoldsPolicies}
use Rattle.fabric_graph.specs.FabricTables.{FabricSeen}
use Rattle.terminators.specs.TermTables.{TermTables}

-- The entities are those of a state, and the uses that are held beside theirs are those of its policies.
pub record AreEntitiesOf (t : Tables) (s : State) : Type 0 where
  pub identities : s.identities ≡ t.identities
  pub services : s.services ≡ t.services
  pub routers : s.routers ≡ t.routers
  pub held : HoldsPolicies t s

-- The links are those of a state.
pub record AreLinksOf (f : FabricSeen) (s : State) : Type 0 where
  pub links : s.links ≡ f.links

-- The terminators are those of a state.
pub record AreTermsOf (k : TermTables) (s : State) : Type 0 where
  pub terminators : s.terminators ≡ k.terminators
