-- What settles after each change, by its numbers.
use Rattle.std.proofs.Common.{◌≡◌, ℕ, Bool, true, false, not, cond, List, [], ◌∷◌, Option, None, Some, refl, ◌∙◌, subst}
use Rattle.std.proofs.lemmas.Bool.{false≢true}
use Rattle.ctrl_model.specs.declared.intercepts.Intercept.{Intercept}
use Rattle.ctrl_model.specs.declared.kinds.Kind.{Kind}
use Rattle.ctrl_model.specs.declared.kinds.Kind.TheVariants as kind
use Rattle.ctrl_model.specs.EntityCommands.{new_router}
use Rattle.ctrl_model.specs.Numbered.{at}
use Rattle.ctrl_model.specs.Settling.{link_stays, terminator_stays}
use Rattle.ctrl_model.specs.State.{State, Router}
use Rattle.ctrl_model.specs.Tables.{is_entity_kind}
use Rattle.ctrl_model.specs.ValidState.{ValidState}
use Rattle.circuits.specs.declared.changes.CircuitChange.{CircuitChange}
use Rattle.circuits.specs.declared.changes.CircuitChange.TheVariants as circuit
use Rattle.circuit_rules.specs.CircuitPlans.{StandsIn, routed}
use Rattle.entity_store.specs.declared.changes.EntityChange.{EntityChange}
use Rattle.entity_store.specs.declared.changes.EntityChange.TheVariants as entity
use Rattle.entity_commands.specs.EntityChanges.{CanEnter, is_plain_kind, with_plain, with_described, without_named, entered}
use Rattle.fabric_graph.specs.declared.changes.LinkChange.{LinkChange}
use Rattle.fabric_graph.specs.declared.changes.LinkChange.TheVariants as link
use Rattle.link_commands.specs.LinkChanges.{linked}
use Rattle.policy_store.specs.PolicyChanges.{ruled}
use Rattle.intercepts.specs.InterceptChanges.{claimed_by}
use Rattle.terminators.specs.declared.changes.TermChange.{TermChange}
use Rattle.terminators.specs.declared.changes.TermChange.TheVariants as term
use Rattle.terminator_commands.specs.TermChanges.{offered}
use Rattle.fallen_records.specs.FallenRecords.{Falls, links_of, ends_on, circuits_on, marked_circuits}
use Rattle.fallen_records.proofs.EntityCases.{identity_gone, service_gone, router_gone}
use Rattle.fallen_records.proofs.MarkedRouters.{identity_more, service_more, router_more, identity_edited, service_edited, router_marked}
use Rattle.fallen_records.proofs.NetworkCases.{policies_changed, setting_changed, link_set, link_down, link_removed, term_set, term_removed, circuit_removed}
use Rattle.fallen_records.proofs.SettlingCases.{link_more, term_more, circuit_more}
use Rattle.core_stores.specs.declared.changes.Change.{Change}
use Rattle.core_stores.specs.declared.changes.Change.TheVariants as change
use Rattle.core_stores.specs.declared.stores.Stores.{Stores}
use Rattle.core_stores.specs.StoredState.{state_of}
use Rattle.ctrl_core.specs.Changes.{CanChange, after_change}
use Rattle.fallen_records.specs.declared.falling.Fallen.{Fallen}
use Rattle.fallen_records.specs.NamedRecords.{Names, number_unless, NamesByEntity, NamesByLink, NamesByTerm}
use Rattle.ctrl_core.specs.PlannedCommands.{Stands}
use Rattle.ctrl_core.specs.SettledParts.{bare_state_of, NamesBy}

-- these fall
abbrev pub FallAs : State → Fallen → Type 0
FallAs t g = Falls t g.links g.terminators g.circuits

-- what falls by its numbers falls
settled_from : (t : State) (links terminators circuits : List ℕ) (g : Fallen) → Falls t links terminators circuits → Names links terminators circuits g → FallAs t g
settled_from t links terminators circuits g f n = record {
  links_are = n.links_are ∙ f.links_are;
  terms_are = n.terminators_are ∙ f.terms_are;
  circuits_are = n.circuits_are ∙ f.circuits_are;
}

-- intercepts matter to nothing that falls
claimed_falls : (claims : List (ℕ × Intercept)) (t : State) (links terminators circuits : List ℕ) → Falls t links terminators circuits → Falls (record t { intercepts = claims }) links terminators circuits
claimed_falls claims t links terminators circuits f = record { links_are = f.links_are; terms_are = f.terms_are; circuits_are = f.circuits_are }

plain_more : (k : Kind) (name : List ℕ) (attributes : List (List ℕ)) (s : State) → ValidState s → is_plain_kind k ≡ true → Falls (with_plain k name attributes s) [] [] []
plain_more kind.Identity name attributes s v e = identity_more s v (record { name = name; attributes = attributes })
plain_more kind.Service name attributes s v e = service_more s v (record { name = name; attributes = attributes })
plain_more _ name attributes s v e = absurd (false≢true e)

plain_edited : (k : Kind) (n : ℕ) (attributes : List (List ℕ)) (s : State) → ValidState s → is_plain_kind k ≡ true → Falls (with_described k n attributes s) [] [] []
plain_edited kind.Identity n attributes s v e = identity_edited s v n (λ x. record x { attributes = attributes })
plain_edited kind.Service n attributes s v e = service_edited s v n (λ x. record x { attributes = attributes })
plain_edited _ n attributes s v e = absurd (false≢true e)

-- ---- what is named settles

module _ (st : Stores) (v : ValidState (state_of st)) where
  abbrev s : State
  s = state_of st

  abbrev b : State
  b = bare_state_of st

  removed : (k : Kind) (n : ℕ) (name : List ℕ) → is_entity_kind k ≡ true → Falls (without_named k n name s) (links_of k n b) (ends_on k n b) (circuits_on (Some (k, n)) (links_of k n b) (ends_on k n b) b)
  removed kind.Identity n name e = let t = without_named kind.Identity n name s in identity_gone s v t.service_policies t.edge_router_policies t.service_edge_router_policies n
  removed kind.Service n name e =
      let t = without_named kind.Service n name s in
      claimed_falls t.intercepts (record t { intercepts = st.intercepts }) _ _ _ (service_gone s v t.service_policies t.edge_router_policies t.service_edge_router_policies n)
  removed kind.Router n name e = let t = without_named kind.Router n name s in router_gone s v t.service_policies t.edge_router_policies t.service_edge_router_policies n
  removed _ n name e = absurd (false≢true e)

  -- policies matter to no circuit
  bare_marks : (o : Option Router) (n : ℕ) (through connected : Bool) → marked_circuits o n through connected s ≡ marked_circuits o n through connected b
  bare_marks None n through connected = refl
  bare_marks (Some r) n through connected = refl

  entity_settles : (c : EntityChange) → CanEnter c s → (g : Fallen) → NamesByEntity c b g → FallAs (entered c s) g
  entity_settles (entity.Add k name attributes) can g n = settled_from (with_plain k name attributes s) [] [] [] g (plain_more k name attributes s v can) n
  entity_settles (entity.AddRouter name attributes cost through) can g n =
      settled_from (entered (entity.AddRouter name attributes cost through) s) [] [] [] g (router_more s v (new_router name attributes cost (not through))) n
  entity_settles (entity.Describe k m attributes) can g n = settled_from (with_described k m attributes s) [] [] [] g (plain_edited k m attributes s v can.0) n
  entity_settles (entity.DescribeRouter m attributes cost through connected) can g n =
      let t = entered (entity.DescribeRouter m attributes cost through connected) s in
      settled_from t [] [] (marked_circuits (at b.routers.rows m) m through connected b) g
      (subst (λ (cs : List ℕ). Falls t [] [] cs) (bare_marks (at s.routers.rows m) m through connected)
      (router_marked s v m (λ r. record r { attributes = attributes; cost = cost; through = through; connected = connected }) through connected (λ x. (refl, refl)))) n
  entity_settles (entity.Mark m cost through connected) can g n =
      let t = entered (entity.Mark m cost through connected) s in
      settled_from t [] [] (marked_circuits (at b.routers.rows m) m through connected b) g
      (subst (λ (cs : List ℕ). Falls t [] [] cs) (bare_marks (at s.routers.rows m) m through connected)
      (router_marked s v m (λ r. record r { cost = cost; through = through; connected = connected }) through connected (λ x. (refl, refl)))) n
  entity_settles (entity.Remove k m name) can g n =
      settled_from (without_named k m name s) (links_of k m b) (ends_on k m b) (circuits_on (Some (k, m)) (links_of k m b) (ends_on k m b) b) g (removed k m name can.0) n

  link_settles : (c : LinkChange) (g : Fallen) → NamesByLink c b g → FallAs (linked c s) g
  link_settles (link.Add l) g n = settled_from (linked (link.Add l) s) (number_unless (link_stays b (0, l)) b.links.next) [] [] g (link_more s v l) n
  link_settles (link.Set m cost latency_a latency_b up) g n = by up n
    where
      by : (a : Bool) → Names [] [] (cond a [] (circuits_on None (m.0 ∷ []) [] b)) g → FallAs (linked (link.Set m cost latency_a latency_b a) s) g
      by true n = settled_from (linked (link.Set m cost latency_a latency_b true) s) [] [] [] g (link_set s v m.0 (λ l. record l { cost = cost; latency_a = latency_a; latency_b = latency_b; up = true }) (λ k. (refl, refl, λ e. refl))) n
      by false n =
          settled_from (linked (link.Set m cost latency_a latency_b false) s) [] [] (circuits_on None (m.0 ∷ []) [] b) g
          (link_down s v m.0 (λ l. record l { cost = cost; latency_a = latency_a; latency_b = latency_b; up = false }) (λ k. (refl, refl)) (λ k. refl)) n
  link_settles (link.Remove m) g n = settled_from (linked (link.Remove m) s) [] [] (circuits_on None (m.0 ∷ []) [] b) g (link_removed s v m.0) n
  link_settles (link.SetLeast cost) g n = settled_from (linked (link.SetLeast cost) s) [] [] [] g (setting_changed s v cost) n

  term_settles : (c : TermChange) (g : Fallen) → NamesByTerm c b g → FallAs (offered c s) g
  term_settles (term.Add e) g n = settled_from (offered (term.Add e) s) [] (number_unless (terminator_stays b (0, e)) b.terminators.next) [] g (term_more s v e) n
  term_settles (term.Set m cost precedence) g n =
      settled_from (offered (term.Set m cost precedence) s) [] [] [] g (term_set s v m.0 (λ e. record e { cost = cost; precedence = precedence }) (λ e. (refl, refl, refl))) n
  term_settles (term.Remove m) g n = settled_from (offered (term.Remove m) s) [] [] (circuits_on None [] (m.0 ∷ []) b) g (term_removed s v m.0) n

  circuit_settles : (c : CircuitChange) → StandsIn c s → (g : Fallen) → Names [] [] [] g → FallAs (routed c s) g
  circuit_settles (circuit.Add c) stands g n =
      settled_from (routed (circuit.Add c) s) [] [] [] g
      (subst (λ (stays : Bool). Falls (routed (circuit.Add c) s) [] [] (number_unless stays s.circuits.next)) stands.1 (circuit_more s v c)) n
  circuit_settles (circuit.Remove m) stands g n = settled_from (routed (circuit.Remove m) s) [] [] [] g (circuit_removed s v m.0) n

  pub settles : (c : Change) → CanChange c s → Stands c s → (g : Fallen) → NamesBy c b g → FallAs (after_change c s) g
  settles (change.Entity c) can stands g n = entity_settles c can g n
  settles (change.Policy c) can stands g n =
      let t = ruled c s in settled_from t [] [] [] g (policies_changed s v t.service_policies t.edge_router_policies t.service_edge_router_policies) n
  settles (change.Link c) can stands g n = link_settles c g n
  settles (change.Terminator c) can stands g n = term_settles c g n
  settles (change.Circuit c) can stands g n = circuit_settles c stands g n
  settles (change.Intercept c) can stands g n =
      let t = claimed_by c s in
      settled_from t [] [] [] g (claimed_falls t.intercepts s [] [] [] (policies_changed s v s.service_policies s.edge_router_policies s.service_edge_router_policies)) n
