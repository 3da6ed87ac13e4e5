-- The state after a change, by its parts: what each store makes of the change, as it is looked at before it is made.
use Rattle.std.proofs.Common.{◌≡◌, ℕ, ◌+◌, ◌≤◌, Bool, not, List, [], Option, None, Some, refl, sym, ◌∙◌, ap, subst}
use Rattle.ctrl_model.specs.declared.intercepts.Intercept.{Intercept}
use Rattle.ctrl_model.specs.declared.kinds.Kind.TheVariants as kind
use Rattle.std.specs.List.{filter}
use Rattle.ctrl_model.specs.Numbered.{Table, numbers, Between, with_kept}
use Rattle.ctrl_model.specs.Settling.{link_stays, terminator_stays, settle, settle_links}
use Rattle.ctrl_model.specs.State.{State, Terminator}
use Rattle.ctrl_model.proofs.NumberedLaws.{Between-with_last, Between-edit_at, Between-without}
use Rattle.record_tables.specs.AfterChange.{changed_by, without_numbers}
use Rattle.record_tables.proofs.GoneLaws.{kept}
use Rattle.circuits.specs.declared.changes.CircuitChange.{CircuitChange}
use Rattle.circuits.specs.declared.changes.CircuitChange.TheVariants as circuit
use Rattle.circuits.specs.CircuitChanges.{after_circuit_change}
use Rattle.circuits.specs.CircuitTables.{CircuitTables}
use Rattle.circuits.specs.MovedCircuits.{moved_table}
use Rattle.circuit_settling.proofs.JudgedCircuits.{circuits_settled}
use Rattle.entity_store.specs.EntityChanges.{after_entity_change}
use Rattle.entity_store.specs.EntityTables.{Tables}
use Rattle.fabric_graph.specs.declared.changes.LinkChange.{LinkChange}
use Rattle.fabric_graph.specs.declared.changes.LinkChange.TheVariants as link
use Rattle.fabric_graph.specs.FabricChanges.{after_link_change}
use Rattle.fabric_graph.specs.FabricTables.{FabricSeen}
use Rattle.policy_store.specs.PolicyChanges.{after_policy_change}
use Rattle.policy_store.specs.PolicyTables.{PolicyTables}
use Rattle.terminators.specs.declared.changes.TermChange.{TermChange}
use Rattle.terminators.specs.declared.changes.TermChange.TheVariants as term
use Rattle.terminators.specs.TermChanges.{after_term_change}
use Rattle.terminators.specs.TermTables.{TermTables}
use Rattle.core_stores.specs.declared.changes.Change.{Change}
use Rattle.core_stores.specs.declared.changes.Change.TheVariants as change
use Rattle.core_stores.specs.declared.settled.Settled.{Settled}
use Rattle.core_stores.specs.declared.stores.Stores.{Stores}
use Rattle.policy_commands.specs.ForgottenEntities.{forgetting_by}
use Rattle.intercepts.specs.InterceptChanges.{intercepts_after}
use Rattle.core_stores.specs.Claims.{claim_part}
use Rattle.core_stores.specs.ChangeParts.{entity_part, link_part, term_part, circuit_part}
use Rattle.ctrl_core.specs.ChangedStores.{CanSettle}
use Rattle.ctrl_core.specs.Changes.{after_change}
use Rattle.core_stores.specs.StoredState.{state_of}
use Rattle.core_stores.specs.SettledNumbers.{without_settled}
use Rattle.ctrl_core.specs.SettledRecords.{AreSettled}
use Rattle.ctrl_core.proofs.ApplyLaws.{carried_entity}

-- the state of some tables
abbrev pub assembled : Tables → PolicyTables → FabricSeen → TermTables → CircuitTables → List (ℕ × Intercept) → ℕ → State
assembled t p f e k claims serial = record {
  identities = t.identities;
  services = t.services;
  routers = t.routers;
  links = f.links;
  service_policies = p.service_policies;
  edge_router_policies = p.edge_router_policies;
  service_edge_router_policies = p.service_edge_router_policies;
  terminators = e.terminators;
  circuits = k.circuits;
  least_router_cost = f.least;
  intercepts = claims;
  serial = serial;
}

-- each table after a change
abbrev pub entities_then : Change → Stores → Tables
entities_then c st = changed_by after_entity_change (entity_part c) st.entities

abbrev pub policies_then : Change → Stores → PolicyTables
policies_then (change.Entity e) st = forgetting_by e st.policies
policies_then (change.Policy p) st = after_policy_change p st.policies
policies_then _ st = st.policies

abbrev pub links_then : Change → Stores → FabricSeen
links_then c st = changed_by after_link_change (link_part c) st.fabric

abbrev pub terms_then : Change → Stores → TermTables
terms_then c st = changed_by after_term_change (term_part c) st.terminators

abbrev pub circuits_then : Change → Stores → CircuitTables
circuits_then c st = changed_by after_circuit_change (circuit_part c) st.circuits

abbrev pub claims_then : Change → Stores → List (ℕ × Intercept)
claims_then c st = intercepts_after (claim_part c) st.intercepts

abbrev pub state_then : Change → Stores → State
state_then c st = assembled (entities_then c st) (policies_then c st) (links_then c st) (terms_then c st) (circuits_then c st) (claims_then c st) st.serial

-- what is open at terminators is no part of a state
same_terms : (c : TermChange) (e : TermTables) → (after_term_change c (record { terminators = e.terminators; loads = [] })).terminators ≡ (after_term_change c e).terminators
same_terms (term.Add t) e = refl
same_terms (term.Set n cost precedence) e = refl
same_terms (term.Remove n) e = refl

-- the state after a change is that of the tables after it
pub parts_after : (c : Change) (st : Stores) → CanSettle st c → after_change c (state_of st) ≡ state_then c st
parts_after (change.Entity e) st can = sym (carried_entity e st can.can can.valid can.held).next
parts_after (change.Policy p) st can = refl
parts_after (change.Link l) st can = refl
parts_after (change.Terminator e) st can = ap (λ (t : Table Terminator). record (state_of st) { terminators = t }) (same_terms e st.terminators)
parts_after (change.Circuit k) st can = refl
parts_after (change.Intercept i) st can = refl

-- ---- the tables after a change are numbered

pub record IsNumbered {R : Type 0} (rows : List (ℕ × R)) : Type 0 where
  pub high : ℕ
  pub ordered : Between 1 high rows

links_numbered : (o : Option LinkChange) (f : FabricSeen) → 1 ≤ f.links.next → Between 1 f.links.next f.links.rows → IsNumbered (changed_by after_link_change o f).links.rows
links_numbered None f h b = record { high = f.links.next; ordered = b }
links_numbered (Some (link.Add l)) f h b = record { high = f.links.next + 1; ordered = Between-with_last f.links.next f.links.rows 1 l h b }
links_numbered (Some (link.Set n cost x y up)) f h b = record { high = f.links.next; ordered = Between-edit_at f.links.next f.links.rows 1 n.0 _ b }
links_numbered (Some (link.Remove n)) f h b = record { high = f.links.next; ordered = Between-without f.links.next f.links.rows 1 n.0 b }
links_numbered (Some (link.SetLeast cost)) f h b = record { high = f.links.next; ordered = b }

terms_numbered : (o : Option TermChange) (e : TermTables) → 1 ≤ e.terminators.next → Between 1 e.terminators.next e.terminators.rows
    → Between 1 (changed_by after_term_change o e).terminators.next (changed_by after_term_change o e).terminators.rows
terms_numbered None e h b = b
terms_numbered (Some (term.Add t)) e h b = Between-with_last e.terminators.next e.terminators.rows 1 t h b
terms_numbered (Some (term.Set n cost precedence)) e h b = Between-edit_at e.terminators.next e.terminators.rows 1 n.0 _ b
terms_numbered (Some (term.Remove n)) e h b = Between-without e.terminators.next e.terminators.rows 1 n.0 b

circuits_numbered : (o : Option CircuitChange) (k : CircuitTables) → 1 ≤ k.circuits.next → Between 1 k.circuits.next k.circuits.rows
    → Between 1 (changed_by after_circuit_change o k).circuits.next (changed_by after_circuit_change o k).circuits.rows
circuits_numbered None k h b = b
circuits_numbered (Some (circuit.Add c)) k h b = Between-with_last k.circuits.next k.circuits.rows 1 c h b
circuits_numbered (Some (circuit.Remove n)) k h b = Between-without k.circuits.next k.circuits.rows 1 n.0 b

pub links_ordered : (c : Change) (st : Stores) → CanSettle st c → IsNumbered (links_then c st).links.rows
links_ordered c st can = let v = (can.before.kinds kind.Link).numbers in links_numbered (link_part c) st.fabric v.first v.ordered

pub terms_ascend : (c : Change) (st : Stores) → CanSettle st c → Between 1 (terms_then c st).terminators.next (terms_then c st).terminators.rows
terms_ascend c st can = let v = (can.before.kinds kind.Terminator).numbers in terms_numbered (term_part c) st.terminators v.first v.ordered

pub terms_ordered : (c : Change) (st : Stores) → CanSettle st c → IsNumbered (terms_then c st).terminators.rows
terms_ordered c st can = record { high = (terms_then c st).terminators.next; ordered = terms_ascend c st can }

pub circuits_ordered : (c : Change) (st : Stores) → CanSettle st c → Between 1 (circuits_then c st).circuits.next (circuits_then c st).circuits.rows
circuits_ordered c st can = let v = (can.before.kinds kind.Circuit).numbers in circuits_numbered (circuit_part c) st.circuits v.first v.ordered

-- ---- what is left

-- the numbers of the records that a test does not pass
abbrev pub failing : {R : Type 0} → (ℕ × R → Bool) → List (ℕ × R) → List ℕ
failing stays rows = numbers (filter (λ row. not (stays row)) rows)

-- the links and the terminators that are left are those of the state once both are settled
pub links_left : (c : Change) (st : Stores) (gone : List ℕ) → CanSettle st c → gone ≡ failing (link_stays (state_then c st)) (links_then c st).links.rows
    → without_numbers gone (links_then c st).links ≡ with_kept (link_stays (state_then c st)) (links_then c st).links
links_left c st gone can are =
    let o = links_ordered c st can in
    ap (λ ns. without_numbers ns (links_then c st).links) are ∙ sym (kept (link_stays (state_then c st)) (links_then c st).links o.high o.ordered)

pub terms_left : (c : Change) (st : Stores) (gone : List ℕ) → CanSettle st c → gone ≡ failing (terminator_stays (settle_links (state_then c st))) (terms_then c st).terminators.rows
    → without_numbers gone (terms_then c st).terminators ≡ with_kept (terminator_stays (settle_links (state_then c st))) (terms_then c st).terminators
terms_left c st gone can are =
    let o = terms_ordered c st can in
    ap (λ ns. without_numbers ns (terms_then c st).terminators) are ∙ sym (kept (terminator_stays (settle_links (state_then c st))) (terms_then c st).terminators o.high o.ordered)

-- the circuits that are left, of which some are moved, are those of the settled state
circuits_left : (c : Change) (st : Stores) (g : Settled) → CanSettle st c → AreSettled (state_then c st) g
    → moved_table g.moves (without_numbers g.ended (circuits_then c st).circuits) ≡ (settle (state_then c st)).circuits
circuits_left c st g can named =
    (λ i. moved_table (named.judged.moves_are i) (without_numbers (named.judged.ended_are i) (circuits_then c st).circuits))
    ∙ ap (λ (k : CircuitTables). k.circuits) (circuits_settled (state_then c st) g.going (circuits_ordered c st can) named.judged.going_are)

-- a state without what settles is settled
pub without_is_settled : (c : Change) (st : Stores) (g : Settled) → CanSettle st c → AreSettled (after_change c (state_of st)) g
    → without_settled g (after_change c (state_of st)) ≡ settle (after_change c (state_of st))
without_is_settled c st g can are =
    subst (λ s. AreSettled s g → without_settled g s ≡ settle s) (sym (parts_after c st can)) (λ named i. record (state_then c st) {
      links = links_left c st g.links can named.links_are i;
      terminators = terms_left c st g.terminators can named.terms_are i;
      circuits = circuits_left c st g can named i;
    }) are
