-- The tables of the state after a change, settled, as the families that make rows see them; and what their calls need.
use Rattle.std.proofs.Common.{◌≡◌, ℕ, true, List, [], Option, None, Some, Bor, IfSome, refl, sym, ◌∙◌, ap, subst, arith}
use Rattle.std.proofs.lemmas.Option.{none-some}
use Rattle.std.specs.Option.{option_map, unwrap_or}
use Rattle.ctrl_model.specs.declared.formats.Format.{Format}
use Rattle.ctrl_model.specs.declared.kinds.Kind.{Kind}
use Rattle.ctrl_model.specs.declared.kinds.Kind.TheVariants as kind
use Rattle.ctrl_model.specs.Membership.{Among}
use Rattle.ctrl_model.specs.Numbered.{at}
use Rattle.ctrl_model.specs.Settling.{link_stays, terminator_stays, stays_in, settle, settle_links}
use Rattle.ctrl_model.specs.State.{State}
use Rattle.ctrl_model.specs.ValidState.{ValidState}
use Rattle.record_tables.specs.AfterChange.{changed_by}
use Rattle.record_tables.specs.Climbing.{Climbs}
use Rattle.record_tables.proofs.GoneLaws.{gone_climb}
use Rattle.row_codec.specs.CoveredTables.{Covers}
use Rattle.row_laws.proofs.Covers.{Covers-append, Covers-same_records}
use Rattle.row_laws.proofs.WrittenRecords.{record_at_fits}
use Rattle.circuits.specs.declared.changes.CircuitChange.{CircuitChange}
use Rattle.circuits.specs.CircuitChanges.{circuits_after}
use Rattle.circuits.specs.MovedCircuits.{moved_numbers, with_moves}
use Rattle.circuits.proofs.JudgedMoves.{ended_among, moved_among}
use Rattle.circuit_settling.specs.CircuitRows as circuit_rows
use Rattle.circuit_settling.specs.OtherLinks.{keeps_in, way_in}
use Rattle.entity_store.specs.declared.changes.EntityChange.{EntityChange}
use Rattle.entity_store.specs.EntityChanges.{after_entity_change}
use Rattle.entity_store.specs.declared.changes.EntityChange.TheVariants as entity
use Rattle.entity_store.specs.EntityTables.{Tables, is_entity_kind}
use Rattle.entity_commands.specs.EntityChanges.{CanChangeEntities}
use Rattle.entity_commands.specs.EntityRows.{AreFit, Has}
use Rattle.entity_commands.proofs.ApplyLaws.{can_apply}
use Rattle.fabric_graph.specs.declared.changes.LinkChange.{LinkChange}
use Rattle.fabric_graph.specs.declared.changes.LinkChange.TheVariants as link
use Rattle.fabric_graph.specs.FabricChanges.{after_link_change, fabric_after}
use Rattle.link_commands.specs.LinkRows as link_rows
use Rattle.policy_store.specs.declared.changes.PolicyChange.{PolicyChange}
use Rattle.policy_store.specs.PolicyChanges.{CanChangePolicies, after_policy_change, tables_of}
use Rattle.policy_commands.specs.PolicyRows.{AreValid}
use Rattle.policy_store.specs.PolicyTables.{PolicyTables, forgetting}
use Rattle.terminators.specs.declared.changes.TermChange.{TermChange}
use Rattle.terminators.specs.TermChanges.{terms_after}
use Rattle.terminator_commands.specs.TermRows as term_rows
use Rattle.core_stores.specs.declared.changes.Change.{Change}
use Rattle.core_stores.specs.declared.changes.Change.TheVariants as change
use Rattle.core_stores.specs.declared.settled.Settled.{Settled}
use Rattle.core_stores.specs.declared.stores.Stores.{Stores}
use Rattle.core_stores.specs.ChangeParts.{entity_part, policy_part, link_part, term_part, circuit_part, forgotten_name, least_after}
use Rattle.ctrl_core.specs.ChangedStores.{CanSettle, KnowsSettled, next_state}
use Rattle.ctrl_core.specs.Changes.{after_change}
use Rattle.core_stores.specs.StoredState.{state_of}
use Rattle.core_stores.specs.SettledNumbers.{without_settled}
use Rattle.ctrl_core.specs.SettledRecords.{AreSettled}
use Rattle.ctrl_core.proofs.StateParts.{parts_after, state_then, policies_then, links_then, terms_then, circuits_then, links_ordered, terms_ordered, circuits_ordered, without_is_settled}

-- ---- the tables of the next state

-- the next state is the one after the change without what settles
left : (c : Change) (st : Stores) (g : Settled) → KnowsSettled st c g → next_state st c ≡ without_settled g (state_then c st)
left c st g knows = sym (without_is_settled c st g knows.can knows.settled) ∙ ap (without_settled g) (parts_after c st knows.can)

pub links_end : (c : Change) (st : Stores) (g : Settled) (o : Option LinkChange) → KnowsSettled st c g → o ≡ link_part c → (next_state st c).links ≡ (fabric_after o g.links st.fabric).links
links_end c st g o knows e = ap (λ (s : State). s.links) (left c st g knows) ∙ sym (ap (λ p. (fabric_after p g.links st.fabric).links) e)

pub terms_end : (c : Change) (st : Stores) (g : Settled) (o : Option TermChange) → KnowsSettled st c g → o ≡ term_part c → (next_state st c).terminators ≡ (terms_after o g.terminators st.terminators).terminators
terms_end c st g o knows e = ap (λ (s : State). s.terminators) (left c st g knows) ∙ sym (ap (λ p. (terms_after p g.terminators st.terminators).terminators) e)

pub circuits_end : (c : Change) (st : Stores) (g : Settled) (o : Option CircuitChange) → KnowsSettled st c g → o ≡ circuit_part c → (next_state st c).circuits ≡ (with_moves g.moves (circuits_after o g.ended st.circuits)).circuits
circuits_end c st g o knows e = ap (λ (s : State). s.circuits) (left c st g knows) ∙ sym (ap (λ p. (with_moves g.moves (circuits_after p g.ended st.circuits)).circuits) e)

-- what settling leaves alone
whole : (c : Change) (st : Stores) → CanSettle st c → next_state st c ≡ settle (state_then c st)
whole c st can = ap settle (parts_after c st can)

pub policies_end : (c : Change) (st : Stores) → CanSettle st c → tables_of (next_state st c) ≡ policies_then c st
policies_end c st can = ap tables_of (whole c st can)

pub least_end : (c : Change) (st : Stores) → CanSettle st c → (next_state st c).least_router_cost ≡ (links_then c st).least
least_end c st can = ap (λ (s : State). s.least_router_cost) (whole c st can)

pub entities_end : (c : Change) (st : Stores) (o : Option EntityChange) → CanSettle st c → o ≡ entity_part c → Has (changed_by after_entity_change o st.entities) (next_state st c)
entities_end c st o can e = subst (λ p. Has (changed_by after_entity_change p st.entities) (next_state st c)) (sym e) (record {
  identities = ap (λ (s : State). s.identities) (whole c st can);
  services = ap (λ (s : State). s.services) (whole c st can);
  routers = ap (λ (s : State). s.routers) (whole c st can);
})

pub entities_now : (st : Stores) → Has st.entities (state_of st)
entities_now st = record { identities = refl; services = refl; routers = refl }

-- ---- the numbers of what settles climb

-- what settles, of the state by its parts
settled_then : (c : Change) (st : Stores) (g : Settled) → KnowsSettled st c g → AreSettled (state_then c st) g
settled_then c st g knows = subst (λ s. AreSettled s g) (parts_after c st knows.can) knows.settled

pub links_climb : (c : Change) (st : Stores) (g : Settled) → KnowsSettled st c g → Climbs (λ n. n) g.links
links_climb c st g knows =
    let o = links_ordered c st knows.can in
    subst (λ ns. Climbs (λ n. n) ns) (sym (settled_then c st g knows).links_are) (gone_climb (link_stays (state_then c st)) (links_then c st).links o.high o.ordered)

pub terms_climb : (c : Change) (st : Stores) (g : Settled) → KnowsSettled st c g → Climbs (λ n. n) g.terminators
terms_climb c st g knows =
    let o = terms_ordered c st knows.can in
    subst (λ ns. Climbs (λ n. n) ns) (sym (settled_then c st g knows).terms_are)
    (gone_climb (terminator_stays (settle_links (state_then c st))) (terms_then c st).terminators o.high o.ordered)

-- and the circuits that do not stay as they are hold those that end and those that are moved
pub circuits_climb : (c : Change) (st : Stores) (g : Settled) → KnowsSettled st c g → Climbs (λ n. n) g.going
circuits_climb c st g knows =
    subst (λ ns. Climbs (λ n. n) ns) (sym (settled_then c st g knows).judged.going_are)
    (gone_climb (keeps_in (state_then c st)) (circuits_then c st).circuits (circuits_then c st).circuits.next (circuits_ordered c st knows.can))

pub ended_going : (c : Change) (st : Stores) (g : Settled) → KnowsSettled st c g → (n : ℕ) → Among n g.ended → Among n g.going
ended_going c st g knows n among =
    let judged = knows.settled.judged in ended_among (way_in (after_change c (state_of st))) g.going n (subst (λ ns. Among n ns) judged.ended_are among)

pub moved_going : (c : Change) (st : Stores) (g : Settled) → KnowsSettled st c g → (n : ℕ) → Among n (moved_numbers g.moves) → Among n g.going
moved_going c st g knows n among =
    let judged = knows.settled.judged in
    moved_among (way_in (after_change c (state_of st))) g.going n (subst (λ ms. Among n (moved_numbers ms)) judged.moves_are among)

-- ---- records that fit their rows

pub links_fit : (c : Change) (st : Stores) (g : Settled) (o : Option LinkChange) → KnowsSettled st c g → o ≡ link_part c → link_rows.HaveRows (fabric_after o g.links st.fabric)
links_fit c st g o knows e = λ n l stands. (record_at_fits kind.Link (next_state st c) n l knows.can.valid (ap (λ t. at t.rows n) (links_end c st g o knows e) ∙ stands)).1

pub terms_fit : (c : Change) (st : Stores) (g : Settled) (o : Option TermChange) → KnowsSettled st c g → o ≡ term_part c → term_rows.AreFit (terms_after o g.terminators st.terminators)
terms_fit c st g o knows e = λ n l stands. (record_at_fits kind.Terminator (next_state st c) n l knows.can.valid (ap (λ t. at t.rows n) (terms_end c st g o knows e) ∙ stands)).1

pub circuits_fit : (c : Change) (st : Stores) (g : Settled) (o : Option CircuitChange) → KnowsSettled st c g → o ≡ circuit_part c → circuit_rows.HaveRows (with_moves g.moves (circuits_after o g.ended st.circuits))
circuits_fit c st g o knows e = λ n l stands. (record_at_fits kind.Circuit (next_state st c) n l knows.can.valid (ap (λ t. at t.rows n) (circuits_end c st g o knows e) ∙ stands)).1

pub links_fit_now : (st : Stores) → ValidState (state_of st) → link_rows.HaveRows st.fabric
links_fit_now st v = λ n l stands. (record_at_fits kind.Link (state_of st) n l v stands).1

pub terms_fit_now : (st : Stores) → ValidState (state_of st) → term_rows.AreFit st.terminators
terms_fit_now st v = λ n l stands. (record_at_fits kind.Terminator (state_of st) n l v stands).1

pub circuits_fit_now : (st : Stores) → ValidState (state_of st) → circuit_rows.HaveRows st.circuits
circuits_fit_now st v = λ n l stands. (record_at_fits kind.Circuit (state_of st) n l v stands).1

entities_fit_in : (t : Tables) (s : State) → ValidState s → Has t s → AreFit t
entities_fit_in t s v has = record {
  identities = λ n e stands. (record_at_fits kind.Identity s n e v (ap (λ x. at x.rows n) has.identities ∙ stands)).1;
  services = λ n e stands. (record_at_fits kind.Service s n e v (ap (λ x. at x.rows n) has.services ∙ stands)).1;
  routers = λ n e stands. (record_at_fits kind.Router s n e v (ap (λ x. at x.rows n) has.routers ∙ stands)).1;
}

pub entities_fit_now : (st : Stores) → ValidState (state_of st) → AreFit st.entities
entities_fit_now st v = entities_fit_in st.entities (state_of st) v (entities_now st)

pub entities_fit : (c : Change) (st : Stores) (o : Option EntityChange) → CanSettle st c → o ≡ entity_part c → AreFit (changed_by after_entity_change o st.entities)
entities_fit c st o can e = entities_fit_in (changed_by after_entity_change o st.entities) (next_state st c) can.valid (entities_end c st o can e)

pub policies_valid_now : (st : Stores) → ValidState (state_of st) → AreValid st.policies
policies_valid_now st v = record { state = state_of st; valid = v; holds = refl }

pub policies_valid : (c : Change) (st : Stores) → CanSettle st c → AreValid (policies_then c st)
policies_valid c st can = record { state = next_state st c; valid = can.valid; holds = policies_end c st can }

-- ---- what a change of the entities needs

can_by : (c : Change) (st : Stores) → CanSettle st c → (o : Option EntityChange) → o ≡ entity_part c → IfSome o (λ e. CanChangeEntities e st.entities)
can_by (change.Entity e) st can o is =
    subst (λ p. IfSome p (λ d. CanChangeEntities d st.entities)) (sym is) (can_apply e (record { entities = st.entities; rest = state_of st }) can.can can.valid can.held)
can_by _ st can o is = subst (λ p. IfSome p (λ d. CanChangeEntities d st.entities)) (sym is) tt

pub entities_can : (c : Change) (st : Stores) → CanSettle st c → (o : Option (Bor EntityChange)) → option_map (λ e. e.now) o ≡ entity_part c → IfSome o (λ e. CanChangeEntities e.now st.entities)
entities_can c st can o is = by o (can_by c st can (option_map (λ e. e.now) o) is)
  where
    by : (p : Option (Bor EntityChange)) → IfSome (option_map (λ e. e.now) p) (λ e. CanChangeEntities e st.entities) → IfSome p (λ e. CanChangeEntities e.now st.entities)
    by None h = h
    by (Some e) h = h

-- ---- the setting and the policies after a change

pub least_then : (c : Change) (st : Stores) → (links_then c st).least ≡ least_after (link_part c) st.fabric.least
least_then c st = by (link_part c)
  where
    by : (o : Option LinkChange) → (changed_by after_link_change o st.fabric).least ≡ least_after o st.fabric.least
    by None = refl
    by (Some (link.Add l)) = refl
    by (Some (link.Set n cost x y up)) = refl
    by (Some (link.Remove n)) = refl
    by (Some (link.SetLeast cost)) = refl

-- a change of the policies makes them so
pub ruled_then : (c : Change) (st : Stores) (p : PolicyChange) → policy_part c ≡ Some p → policies_then c st ≡ after_policy_change p st.policies
ruled_then (change.Policy q) st p e = ap (λ o. after_policy_change (unwrap_or o q) st.policies) e
ruled_then (change.Entity q) st p e = absurd (none-some p e)
ruled_then (change.Link q) st p e = absurd (none-some p e)
ruled_then (change.Terminator q) st p e = absurd (none-some p e)
ruled_then (change.Circuit q) st p e = absurd (none-some p e)
ruled_then (change.Intercept q) st p e = absurd (none-some p e)

pub can_rule : (c : Change) (st : Stores) (p : PolicyChange) → CanSettle st c → policy_part c ≡ Some p → CanChangePolicies p st.policies
can_rule (change.Policy q) st p can e = subst (λ o. CanChangePolicies (unwrap_or o q) st.policies) e can.can
can_rule (change.Entity q) st p can e = absurd (none-some p e)
can_rule (change.Link q) st p can e = absurd (none-some p e)
can_rule (change.Terminator q) st p can e = absurd (none-some p e)
can_rule (change.Circuit q) st p can e = absurd (none-some p e)
can_rule (change.Intercept q) st p can e = absurd (none-some p e)

-- a change that takes an `@` name out makes them so
pub forgotten_then : (c : Change) (st : Stores) (f : Kind × List ℕ) → forgotten_name (entity_part c) ≡ Some f → policies_then c st ≡ forgetting f.0 f.1 st.policies
forgotten_then (change.Entity (entity.Remove k n name)) st f e = ap (λ (o : Option (Kind × List ℕ)). forgetting (unwrap_or {T = Kind × List ℕ} o (k, name)).0 (unwrap_or {T = Kind × List ℕ} o (k, name)).1 st.policies) e
forgotten_then (change.Entity _) st f e = absurd (none-some f e)
forgotten_then (change.Policy q) st f e = absurd (none-some f e)
forgotten_then (change.Link q) st f e = absurd (none-some f e)
forgotten_then (change.Terminator q) st f e = absurd (none-some f e)
forgotten_then (change.Circuit q) st f e = absurd (none-some f e)
forgotten_then (change.Intercept q) st f e = absurd (none-some f e)

pub can_forget : (c : Change) (st : Stores) (f : Kind × List ℕ) → CanSettle st c → forgotten_name (entity_part c) ≡ Some f → is_entity_kind f.0 ≡ true
can_forget (change.Entity (entity.Remove k n name)) st f can e = ap (λ (o : Option (Kind × List ℕ)). is_entity_kind (unwrap_or {T = Kind × List ℕ} o (k, name)).0) (sym e) ∙ can.can.0
can_forget (change.Entity _) st f can e = absurd (none-some f e)
can_forget (change.Policy q) st f can e = absurd (none-some f e)
can_forget (change.Link q) st f can e = absurd (none-some f e)
can_forget (change.Terminator q) st f can e = absurd (none-some f e)
can_forget (change.Circuit q) st f can e = absurd (none-some f e)
can_forget (change.Intercept q) st f can e = absurd (none-some f e)

-- else they stay
pub kept_then : (c : Change) (st : Stores) → policy_part c ≡ None → forgotten_name (entity_part c) ≡ None → policies_then c st ≡ st.policies
kept_then (change.Policy q) st e f = absurd (none-some q (sym e))
kept_then (change.Entity (entity.Remove k n name)) st e f = absurd (none-some (k, name) (sym f))
kept_then (change.Entity _) st e f = refl
kept_then (change.Link q) st e f = refl
kept_then (change.Terminator q) st e f = refl
kept_then (change.Circuit q) st e f = refl
kept_then (change.Intercept q) st e f = refl

-- states with the same policies
pub policies_same : (f : Format) (s t : State) → tables_of s ≡ tables_of t → Covers f 7 10 s t []
policies_same f s t e =
    Covers-append f 7 8 10 s t [] [] (omega arith) (omega arith) (Covers-same_records f kind.ServicePolicy s t (omega arith) (λ m. ap (λ (p : PolicyTables). at p.service_policies.rows m) e))
    (Covers-append f 8 9 10 s t [] [] (omega arith) (omega arith) (Covers-same_records f kind.EdgeRouterPolicy s t (omega arith) (λ m. ap (λ (p : PolicyTables). at p.edge_router_policies.rows m) e))
    (Covers-same_records f kind.ServiceEdgeRouterPolicy s t (omega arith) (λ m. ap (λ (p : PolicyTables). at p.service_edge_router_policies.rows m) e)))
