-- The next numbers after a change: that of the kind of which it adds a record rises by one, and no other moves.
use Rattle.std.proofs.Common.{◌≡◌, ℕ, ◌+◌, ◌≤◌, ◌<◌, true, cond, nat_le, leb-true, List, [], ◌∷◌, map, inl, inr, Option, None, Some, refl, sym, ◌∙◌, ap, subst, arith}
use Rattle.std.proofs.lemmas.Bool.{false≢true}
use Rattle.ctrl_model.specs.declared.formats.Format.{Format}
use Rattle.ctrl_model.specs.declared.kinds.Kind.{Kind}
use Rattle.ctrl_model.specs.declared.kinds.Kind.TheVariants as kind
use Rattle.ctrl_model.specs.Membership.{Among}
use Rattle.ctrl_model.proofs.Members.{list_all-among}
use Rattle.ctrl_model.specs.Settling.{settle}
use Rattle.ctrl_model.specs.State.{State}
use Rattle.ctrl_model.specs.Tables.{table}
use Rattle.record_tables.specs.AfterChange.{changed_by}
use Rattle.row_codec.specs.CoveredTables.{Covers, change_at}
use Rattle.row_codec.specs.RowKeys.{kind_number, kinds, key_in}
use Rattle.row_codec.specs.RowKeys.RowTable.{Next}
use Rattle.row_laws.specs.ChangedKeys.{next_changes}
use Rattle.row_laws.proofs.JoinedRows.{Climbs-from}
use Rattle.row_laws.proofs.SpelledChanges.{change_at-next}
use Rattle.row_laws.proofs.TouchedKeys.{Covers-next}
use Rattle.circuits.specs.declared.changes.CircuitChange.{CircuitChange}
use Rattle.circuits.specs.declared.changes.CircuitChange.TheVariants as circuit
use Rattle.circuits.specs.CircuitChanges.{after_circuit_change}
use Rattle.circuits.specs.CircuitTables.{CircuitTables}
use Rattle.entity_store.specs.declared.changes.EntityChange.{EntityChange}
use Rattle.entity_store.specs.declared.changes.EntityChange.TheVariants as entity
use Rattle.entity_store.specs.EntityChanges.{after_entity_change}
use Rattle.entity_store.specs.EntityTables.{Tables}
use Rattle.entity_store.specs.EntityTables as tables
use Rattle.fabric_graph.specs.declared.changes.LinkChange.{LinkChange}
use Rattle.fabric_graph.specs.declared.changes.LinkChange.TheVariants as link
use Rattle.fabric_graph.specs.FabricChanges.{after_link_change}
use Rattle.fabric_graph.specs.FabricTables.{FabricSeen}
use Rattle.policy_store.specs.declared.changes.PolicyChange.{PolicyChange}
use Rattle.policy_store.specs.declared.changes.PolicyChange.TheVariants as policy
use Rattle.policy_store.specs.PolicyChanges.{after_policy_change}
use Rattle.policy_store.specs.PolicyTables.{PolicyTables}
use Rattle.terminators.specs.declared.changes.TermChange.{TermChange}
use Rattle.terminators.specs.declared.changes.TermChange.TheVariants as term
use Rattle.terminators.specs.TermChanges.{after_term_change}
use Rattle.terminators.specs.TermTables.{TermTables}
use Rattle.core_stores.specs.declared.changes.Change.{Change}
use Rattle.core_stores.specs.declared.changes.Change.TheVariants as change
use Rattle.core_stores.specs.declared.stores.Stores.{Stores}
use Rattle.policy_commands.specs.ForgottenEntities.{forgetting_by}
use Rattle.core_stores.specs.ChangeParts.{entity_part, policy_part, link_part, term_part, circuit_part, adds, adds_entity, adds_policy, adds_link, adds_term, adds_circuit}
use Rattle.core_stores.specs.NextNumbers.{next_change_by}
use Rattle.row_writing.specs.RecordChanges.{next_change_of}
use Rattle.ctrl_core.specs.ChangedStores.{CanSettle, next_change_in, next_state}
use Rattle.core_stores.specs.StoredState.{state_of}
use Rattle.ctrl_core.proofs.StateParts.{parts_after, state_then, policies_then}

none_more : (n : ℕ) → n ≡ n + 0
none_more n = omega arith

-- ---- entities

-- the next number of a kind of entities rises by one where a change adds one of the kind, and else stays
abbrev EntityNext : Option EntityChange → Tables → Kind → Type 0
EntityNext o t k = tables.next_of k (changed_by after_entity_change o t) ≡ tables.next_of k t + cond (adds_entity o k) 1 0

entity_nexts : (o : Option EntityChange) (t : Tables) → EntityNext o t kind.Identity × EntityNext o t kind.Service × EntityNext o t kind.Router
entity_nexts o t = by o
  where
    identities : t.identities.next ≡ t.identities.next + 0
    identities = none_more t.identities.next

    services : t.services.next ≡ t.services.next + 0
    services = none_more t.services.next

    routers : t.routers.next ≡ t.routers.next + 0
    routers = none_more t.routers.next

    by : (o : Option EntityChange) → EntityNext o t kind.Identity × EntityNext o t kind.Service × EntityNext o t kind.Router
    by (Some (entity.Add kind.Identity name attributes)) = (refl, services, routers)
    by (Some (entity.Add kind.Service name attributes)) = (identities, refl, routers)
    by (Some (entity.Add kind.Router name attributes)) = (identities, services, refl)
    by (Some (entity.Add _ name attributes)) = (identities, services, routers)
    by (Some (entity.AddRouter name attributes cost through)) = (identities, services, refl)
    by (Some (entity.Describe kind.Identity n attributes)) = (identities, services, routers)
    by (Some (entity.Describe kind.Service n attributes)) = (identities, services, routers)
    by (Some (entity.Describe kind.Router n attributes)) = (identities, services, routers)
    by (Some (entity.Describe _ n attributes)) = (identities, services, routers)
    by (Some (entity.Remove kind.Identity n name)) = (identities, services, routers)
    by (Some (entity.Remove kind.Service n name)) = (identities, services, routers)
    by (Some (entity.Remove kind.Router n name)) = (identities, services, routers)
    by (Some (entity.Remove _ n name)) = (identities, services, routers)
    by (Some _) = (identities, services, routers)
    by None = (identities, services, routers)

-- ---- policies

forgotten_next : (e : EntityChange) (p : PolicyTables) → (forgetting_by e p).service_policies.next ≡ p.service_policies.next
forgotten_next (entity.Remove kind.Identity n name) p = refl
forgotten_next (entity.Remove kind.Service n name) p = refl
forgotten_next (entity.Remove _ n name) p = refl
forgotten_next _ p = refl

forgotten_edge : (e : EntityChange) (p : PolicyTables) → (forgetting_by e p).edge_router_policies.next ≡ p.edge_router_policies.next
forgotten_edge (entity.Remove kind.Identity n name) p = refl
forgotten_edge (entity.Remove kind.Router n name) p = refl
forgotten_edge (entity.Remove _ n name) p = refl
forgotten_edge _ p = refl

forgotten_last : (e : EntityChange) (p : PolicyTables) → (forgetting_by e p).service_edge_router_policies.next ≡ p.service_edge_router_policies.next
forgotten_last (entity.Remove kind.Service n name) p = refl
forgotten_last (entity.Remove kind.Router n name) p = refl
forgotten_last (entity.Remove _ n name) p = refl
forgotten_last _ p = refl

policy_next : (c : PolicyChange) (p : PolicyTables) → (after_policy_change c p).service_policies.next ≡ p.service_policies.next + cond (adds_policy (Some c) kind.ServicePolicy) 1 0
policy_next (policy.Add kind.ServicePolicy q) p = refl
policy_next (policy.Add _ q) p = none_more p.service_policies.next
policy_next (policy.Replace kind.ServicePolicy n q) p = none_more p.service_policies.next
policy_next (policy.Replace _ n q) p = none_more p.service_policies.next
policy_next (policy.Remove kind.ServicePolicy n) p = none_more p.service_policies.next
policy_next (policy.Remove _ n) p = none_more p.service_policies.next

edge_next : (c : PolicyChange) (p : PolicyTables) → (after_policy_change c p).edge_router_policies.next ≡ p.edge_router_policies.next + cond (adds_policy (Some c) kind.EdgeRouterPolicy) 1 0
edge_next (policy.Add kind.EdgeRouterPolicy q) p = refl
edge_next (policy.Add _ q) p = none_more p.edge_router_policies.next
edge_next (policy.Replace kind.EdgeRouterPolicy n q) p = none_more p.edge_router_policies.next
edge_next (policy.Replace _ n q) p = none_more p.edge_router_policies.next
edge_next (policy.Remove kind.EdgeRouterPolicy n) p = none_more p.edge_router_policies.next
edge_next (policy.Remove _ n) p = none_more p.edge_router_policies.next

last_next : (c : PolicyChange) (p : PolicyTables) → (after_policy_change c p).service_edge_router_policies.next ≡ p.service_edge_router_policies.next + cond (adds_policy (Some c) kind.ServiceEdgeRouterPolicy) 1 0
last_next (policy.Add kind.ServiceEdgeRouterPolicy q) p = refl
last_next (policy.Add _ q) p = none_more p.service_edge_router_policies.next
last_next (policy.Replace kind.ServiceEdgeRouterPolicy n q) p = none_more p.service_edge_router_policies.next
last_next (policy.Replace _ n q) p = none_more p.service_edge_router_policies.next
last_next (policy.Remove kind.ServiceEdgeRouterPolicy n) p = none_more p.service_edge_router_policies.next
last_next (policy.Remove _ n) p = none_more p.service_edge_router_policies.next

service_policies_next : (c : Change) (st : Stores) → (policies_then c st).service_policies.next ≡ st.policies.service_policies.next + cond (adds_policy (policy_part c) kind.ServicePolicy) 1 0
service_policies_next (change.Entity e) st = forgotten_next e st.policies ∙ none_more st.policies.service_policies.next
service_policies_next (change.Policy p) st = policy_next p st.policies
service_policies_next _ st = none_more st.policies.service_policies.next

edge_policies_next : (c : Change) (st : Stores) → (policies_then c st).edge_router_policies.next ≡ st.policies.edge_router_policies.next + cond (adds_policy (policy_part c) kind.EdgeRouterPolicy) 1 0
edge_policies_next (change.Entity e) st = forgotten_edge e st.policies ∙ none_more st.policies.edge_router_policies.next
edge_policies_next (change.Policy p) st = edge_next p st.policies
edge_policies_next _ st = none_more st.policies.edge_router_policies.next

last_policies_next : (c : Change) (st : Stores) → (policies_then c st).service_edge_router_policies.next ≡ st.policies.service_edge_router_policies.next + cond (adds_policy (policy_part c) kind.ServiceEdgeRouterPolicy) 1 0
last_policies_next (change.Entity e) st = forgotten_last e st.policies ∙ none_more st.policies.service_edge_router_policies.next
last_policies_next (change.Policy p) st = last_next p st.policies
last_policies_next _ st = none_more st.policies.service_edge_router_policies.next

-- ---- links, terminators and circuits

link_next : (o : Option LinkChange) (f : FabricSeen) → (changed_by after_link_change o f).links.next ≡ f.links.next + cond (adds_link o) 1 0
link_next None f = none_more f.links.next
link_next (Some (link.Add l)) f = refl
link_next (Some _) f = none_more f.links.next

term_next : (o : Option TermChange) (e : TermTables) → (changed_by after_term_change o e).terminators.next ≡ e.terminators.next + cond (adds_term o) 1 0
term_next None e = none_more e.terminators.next
term_next (Some (term.Add t)) e = refl
term_next (Some _) e = none_more e.terminators.next

circuit_next : (o : Option CircuitChange) (k : CircuitTables) → (changed_by after_circuit_change o k).circuits.next ≡ k.circuits.next + cond (adds_circuit o) 1 0
circuit_next None k = none_more k.circuits.next
circuit_next (Some (circuit.Add c)) k = refl
circuit_next (Some _) k = none_more k.circuits.next

-- ---- each kind

next_then : (k : Kind) (c : Change) (st : Stores) → nat_le 1 (kind_number k) ≡ true → (table k (settle (state_then c st))).next ≡ (table k (state_of st)).next + cond (adds c k) 1 0
next_then kind.Identity c st h = (entity_nexts (entity_part c) st.entities).0
next_then kind.Service c st h = (entity_nexts (entity_part c) st.entities).1
next_then kind.Router c st h = (entity_nexts (entity_part c) st.entities).2
next_then kind.Link c st h = link_next (link_part c) st.fabric
next_then kind.ServicePolicy c st h = service_policies_next c st
next_then kind.EdgeRouterPolicy c st h = edge_policies_next c st
next_then kind.ServiceEdgeRouterPolicy c st h = last_policies_next c st
next_then kind.Terminator c st h = term_next (term_part c) st.terminators
next_then kind.Circuit c st h = circuit_next (circuit_part c) st.circuits
next_then kind.Attribute c st h = absurd (false≢true h)

pub next_is : (k : Kind) (c : Change) (st : Stores) → CanSettle st c → nat_le 1 (kind_number k) ≡ true → (table k (next_state st c)).next ≡ (table k (state_of st)).next + cond (adds c k) 1 0
next_is k c st can h = ap (λ s. (table k (settle s)).next) (parts_after c st can) ∙ next_then k c st h

-- a next number that rises is below its end
pub next_rises : (k : Kind) (c : Change) (st : Stores) → CanSettle st c → nat_le 1 (kind_number k) ≡ true → adds c k ≡ true → (table k (state_of st)).next < 4294967295
next_rises k c st can h e =
    let last : (table k (next_state st c)).next ≤ 4294967295 = (can.valid.kinds k).numbers.last in
    let is : (table k (next_state st c)).next ≡ (table k (state_of st)).next + cond (adds c k) 1 0 = next_is k c st can h in
    let one : ◌≡◌ {A = ℕ} (cond (adds c k) 1 0) 1 = ap (λ b. cond b 1 0) e in
    omega (arith, last, is, one)

-- ---- the changes of the next numbers of all kinds cover their table

pointwise : {A B : Type 0} (f g : A → B) (xs : List A) → ((x : A) → Among x xs → f x ≡ g x) → map f xs ≡ map g xs
pointwise f g [] h = refl
pointwise f g (x ∷ xs) h = λ i. h x (inl refl) i ∷ pointwise f g xs (λ y m. h y (inr m)) i

among_kinds : (k : Kind) → (Among k kinds → ⊥) → k ≡ kind.Attribute
among_kinds kind.Identity h = absurd (h (inl refl))
among_kinds kind.Service h = absurd (h (inr (inl refl)))
among_kinds kind.Router h = absurd (h (inr (inr (inl refl))))
among_kinds kind.Link h = absurd (h (inr (inr (inr (inl refl)))))
among_kinds kind.ServicePolicy h = absurd (h (inr (inr (inr (inr (inl refl))))))
among_kinds kind.EdgeRouterPolicy h = absurd (h (inr (inr (inr (inr (inr (inl refl)))))))
among_kinds kind.ServiceEdgeRouterPolicy h = absurd (h (inr (inr (inr (inr (inr (inr (inl refl))))))))
among_kinds kind.Terminator h = absurd (h (inr (inr (inr (inr (inr (inr (inr (inl refl)))))))))
among_kinds kind.Circuit h = absurd (h (inr (inr (inr (inr (inr (inr (inr (inr (inl refl))))))))))
among_kinds kind.Attribute h = refl

-- the changes that are made are those between the two states
pub next_so : (c : Change) (st : Stores) → CanSettle st c → map (next_change_by c st) kinds ≡ map (next_change_in (state_of st) (next_state st c)) kinds
next_so c st can = pointwise (next_change_by c st) (next_change_in (state_of st) (next_state st c)) kinds (λ k m.
    ap (next_change_of k (table k (state_of st)).next) (sym (next_is k c st can (list_all-among (λ j. nat_le 1 (kind_number j)) kinds k refl m))))

pub next_covered : (f : Format) (s t : State) → Covers f 1 2 s t (map (next_change_in s t) kinds)
next_covered f s t =
    subst (λ cs. Covers f 1 2 s t cs) same
    (Covers-next f s t kinds (Climbs-from kind_number kinds refl) refl (λ k misses. ap (λ j. (table j s).next) (among_kinds k misses) ∙ sym (ap (λ j. (table j t).next) (among_kinds k misses))))
  where
    same : next_changes f s t kinds ≡ map (next_change_in s t) kinds
    same = pointwise (λ k. change_at f s t (key_in Next (kind_number k) 0)) (next_change_in s t) kinds (λ k m. change_at-next f k s t (leb-true 1 (kind_number k) (list_all-among (λ j. nat_le 1 (kind_number j)) kinds k refl m)))
