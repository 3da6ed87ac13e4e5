-- What settles after a change of some stores, by its numbers. Only private functions and proofs of this crate cite this file.
use Rattle.std.specs.Prelude.{◌≡◌, ℕ, []}
use Rattle.ctrl_model.specs.declared.kinds.Relation.{Relation}
use Rattle.ctrl_model.specs.Grants.{count}
use Rattle.ctrl_model.specs.State.{State, start}
use Rattle.circuit_settling.specs.declared.granting.GrantsAfter.{GrantsAfter}
use Rattle.circuit_settling.specs.EmptiedPairs.{counts_after}
use Rattle.fallen_records.specs.declared.falling.Fallen.{Fallen}
use Rattle.fallen_records.specs.NamedRecords.{Names, NamesByEntity, NamesByLink, NamesByTerm}
use Rattle.core_stores.specs.declared.changes.Change.{Change}
use Rattle.core_stores.specs.declared.changes.Change.TheVariants as change
use Rattle.core_stores.specs.declared.stores.Stores.{Stores}

-- The state of some stores without policies, which settle nothing.
abbrev pub bare_state_of : Stores → State
bare_state_of st = record start {
  identities = st.entities.identities;
  services = st.entities.services;
  routers = st.entities.routers;
  links = st.fabric.links;
  terminators = st.terminators.terminators;
  circuits = st.circuits.circuits;
  least_router_cost = st.fabric.least;
}

-- What settles after a change. A circuit that is added stands, and intercepts matter to nothing that settles.
abbrev pub NamesBy : Change → State → Fallen → Type 0
NamesBy (change.Entity c) s g = NamesByEntity c s g
NamesBy (change.Policy c) s g = Names [] [] [] g
NamesBy (change.Link c) s g = NamesByLink c s g
NamesBy (change.Terminator c) s g = NamesByTerm c s g
NamesBy (change.Circuit c) s g = Names [] [] [] g
NamesBy (change.Intercept c) s g = Names [] [] [] g

-- These are the grant counts of a state.
abbrev pub AreGrantsAfter : State → GrantsAfter → Type 0
AreGrantsAfter s g = (r : Relation) (a b : ℕ) → counts_after r g a b ≡ count r s a b
