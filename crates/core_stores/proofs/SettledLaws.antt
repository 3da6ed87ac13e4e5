-- What is taken out of each store is taken out of the state, and what is moved in the circuits is moved in it.
use Rattle.std.proofs.Common.{◌≡◌, [], refl, sym, ◌∙◌}
use Rattle.record_tables.specs.AfterChange.{without_numbers}
use Rattle.record_tables.proofs.GoneLaws.{gone_none, filter_all}
use Rattle.fabric_graph.specs.FabricTables.{FabricSeen}
use Rattle.fabric_graph.specs.FabricChanges.{without_links}
use Rattle.terminators.specs.TermTables.{TermTables}
use Rattle.terminators.specs.TermChanges.{without_terms}
use Rattle.circuits.specs.CircuitTables.{CircuitTables}
use Rattle.circuits.specs.CircuitChanges.{without_circuits}
use Rattle.circuits.specs.MovedCircuits.{moved_table, with_moves}
use Rattle.circuits.proofs.MoveLaws.{moves-none}
use Rattle.core_stores.specs.declared.settled.Settled.{Settled}
use Rattle.core_stores.specs.declared.stores.Stores.{Stores}
use Rattle.core_stores.specs.CarriedStates.{Carries}
use Rattle.core_stores.specs.SettledNumbers.{without_settled}
use Rattle.core_stores.specs.StoredState.{HoldsPolicies, state_of}

pub taken_out : (st : Stores) (g : Settled) (f : FabricSeen) (k : TermTables) (r : CircuitTables) → f ≡ without_links g.links st.fabric → k ≡ without_terms g.terminators st.terminators
    → r ≡ with_moves g.moves (without_circuits g.ended st.circuits) → HoldsPolicies st → Carries st (record st { fabric = f; terminators = k; circuits = r }) (without_settled g (state_of st))
taken_out st g f k r links_are terms_are circuits_are held = record {
  next = λ i. state_of (record st { fabric = links_are i; terminators = terms_are i; circuits = circuits_are i });
  held = held;
  counts = refl;
}

-- where nothing goes and nothing is moved, the stores stay
pub none_taken : (st : Stores) (g : Settled) → g.links ≡ [] → g.terminators ≡ [] → g.ended ≡ [] → g.moves ≡ [] → HoldsPolicies st
    → Carries st st (without_settled g (state_of st))
none_taken st g links terminators ended moves held = record {
  next = λ i. record (state_of st) {
    links = (gone_none st.fabric.links ∙ (λ j. without_numbers (sym links j) st.fabric.links)) i;
    terminators = (gone_none st.terminators.terminators ∙ (λ j. without_numbers (sym terminators j) st.terminators.terminators)) i;
    circuits = (gone_none st.circuits.circuits ∙ sym (moves-none (without_numbers [] st.circuits.circuits)) ∙ (λ j. moved_table (sym moves j) (without_numbers (sym ended j) st.circuits.circuits))) i;
  };
  held = held;
  counts = refl;
}

-- and so do the terminators with their loads
pub no_term_taken : (st : Stores) (g : Settled) → g.terminators ≡ [] → st.terminators ≡ without_terms g.terminators st.terminators
no_term_taken st g none =
    (λ i. record { terminators = gone_none st.terminators.terminators i; loads = sym (filter_all st.terminators.loads) i })
    ∙ (λ j. without_terms (sym none j) st.terminators)
