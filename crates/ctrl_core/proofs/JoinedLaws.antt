-- What joining a record to the stores of a core has to show: that a raised next number changes no count, and where a record without a
-- flaw leads.
use Rattle.std.proofs.Common.{◌≡◌, ℕ, ◌+◌, ◌≤◌, ◌==◌, ◌⊎◌, inl, inr, not, nat_lt, List, ◌++◌, ◌∷◌, [], None, Some, is_some, count_by, unwrap_or, refl, sym, ◌∙◌, ap, subst, arith, eq-eqb}
use Rattle.std.proofs.lemmas.Bool.{cond-true}
use Rattle.std.specs.List.{flat_map}
use Rattle.std.specs.Option.{option_map}
use Rattle.std.specs.Prelude.{count_by, false, true}
use Rattle.std.specs.Set.{distinct_count}
use Rattle.std.specs.Str.{bytes_eq}
use Rattle.ctrl_model.specs.declared.intercepts.Intercept.{Intercept}
use Rattle.ctrl_model.specs.declared.kinds.Kind.{Kind}
use Rattle.ctrl_model.specs.declared.kinds.Kind.TheVariants as kind
use Rattle.ctrl_model.specs.declared.kinds.Relation.{Relation}
use Rattle.ctrl_model.specs.declared.kinds.Relation.TheVariants.{Dial, Bind, IdentityRouter, ServiceRouter}
use Rattle.ctrl_model.specs.Grants.{count, on_both, joins}
use Rattle.ctrl_model.specs.Limits.{last_next}
use Rattle.ctrl_model.specs.Numbered.{Table, at, is_present, with_last, Between}
use Rattle.ctrl_model.specs.Rules.{attributes_full, side_attributes}
use Rattle.ctrl_model.specs.State.{State, Router, Link, Policy, Terminator, Circuit, as_entity}
use Rattle.ctrl_model.specs.Tables.{Record, table}
use Rattle.ctrl_model.specs.ValidState.{ValidState}
use Rattle.ctrl_model.proofs.NumberedLaws.{Between-more, at-with_last, at-past}
use Rattle.model_laws.proofs.KindLaws.{with_table-holds}
use Rattle.entity_store.proofs.EditLaws.{edit_at-with_last}
use Rattle.entity_commands.specs.EntityChanges.{with_marked}
use Rattle.policy_store.specs.StepsOfRelations.{HasNoSteps}
use Rattle.policy_store.specs.declared.steps.GrantSteps.{GrantSteps}
use Rattle.fabric_graph.specs.declared.changes.LinkChange.{LinkChange}
use Rattle.fabric_graph.specs.FabricChanges.{after_link_change}
use Rattle.fabric_graph.specs.Routers.{fabric_of}
use Rattle.terminators.specs.declared.changes.TermChange.{TermChange}
use Rattle.terminators.specs.TermChanges.{after_term_change}
use Rattle.terminator_commands.specs.TermChanges.{terms_of}
use Rattle.circuits.specs.declared.changes.CircuitChange.{CircuitChange}
use Rattle.circuits.specs.CircuitChanges.{after_circuit_change, circuits_of}
use Rattle.grant_denorm.specs.PairCounts.{count_of}
use Rattle.intercepts.specs.declared.changes.InterceptChange.{InterceptChange}
use Rattle.intercepts.specs.InterceptChanges.{after_intercept_change}
use Rattle.state_building.specs.JoinedRecords.{skipped, joined}
use Rattle.state_building.proofs.JoinedStates.{IsFlawless, IsFlawless-from, flawless-valid, joined-valid}
use Rattle.state_building.proofs.SkippedStates.{renumbered, skipped-valid}
use Rattle.core_stores.specs.declared.changes.Change.{Change}
use Rattle.core_stores.specs.declared.changes.Change.TheVariants as change
use Rattle.core_stores.specs.declared.stores.Grants.{Grants}
use Rattle.core_stores.specs.declared.stores.Stores.{Stores}
use Rattle.core_stores.specs.CarriedStates.{Carries}
use Rattle.grant_steps.specs.LeadingSteps.{LeadAllCounts}
use Rattle.ctrl_core.specs.Changes.{after_change}
use Rattle.ctrl_core.specs.JoinedRows.{MayJoin}
use Rattle.ctrl_core.specs.KeptState.{Keeps}
use Rattle.core_stores.specs.StoredState.{counts_of, state_of}
use Rattle.ctrl_core.proofs.PlanLaws.{no_steps_lead}

-- ---- a raised next number

-- the count of a pair looks at the rows of entities and policies alone
same_count : (s t : State) → ((k : Kind) → (table k s).rows ≡ (table k t).rows) → (r : Relation) (a b : ℕ) → count r s a b ≡ count r t a b
same_count s t same Dial a b = λ i.
    on_both (at (same kind.Identity i) a) (at (same kind.Service i) b) (λ e f. count_by (λ (row : ℕ × Policy). joins Dial row.1 e f) (same kind.ServicePolicy i))
same_count s t same Bind a b = λ i.
    on_both (at (same kind.Identity i) a) (at (same kind.Service i) b) (λ e f. count_by (λ (row : ℕ × Policy). joins Bind row.1 e f) (same kind.ServicePolicy i))
same_count s t same IdentityRouter a b = λ i.
    on_both (at (same kind.Identity i) a) (option_map as_entity (at (same kind.Router i) b)) (λ e f. count_by (λ (row : ℕ × Policy). joins IdentityRouter row.1 e f) (same kind.EdgeRouterPolicy i))
same_count s t same ServiceRouter a b = λ i.
    on_both (at (same kind.Service i) a) (option_map as_entity (at (same kind.Router i) b)) (λ e f. count_by (λ (row : ℕ × Policy). joins ServiceRouter row.1 e f) (same kind.ServiceEdgeRouterPolicy i))

same_rows : (k : Kind) (n : ℕ) (s : State) (j : Kind) → (table j s).rows ≡ (table j (skipped k n s)).rows
same_rows k n s = with_table-holds (λ j t. (table j s).rows ≡ t.rows) s k (renumbered k n s) refl refl (λ j. refl)

-- what a core keeps of its stores stays
pub keeps_skipped : (k : Kind) (n : ℕ) (st mid : Stores) → (table k (state_of st)).next ≤ n → n ≤ last_next → Keeps st → Carries st mid (skipped k n (state_of st)) → mid.terminators.loads ≡ st.terminators.loads → Keeps mid
keeps_skipped k n st mid above last keeps carries same_loads = record {
  valid = subst ValidState (sym carries.next) (skipped-valid k n (state_of st) keeps.valid above last);
  held = carries.held;
  loads = λ m.
      ap (λ (ls : List (ℕ × ℕ)). unwrap_or (at ls m) 0) same_loads ∙ keeps.loads m
      ∙ ap (λ (rows : List (ℕ × Circuit)). count_by (λ row. row.1.terminator == m) rows) (same_rows k n (state_of st) kind.Circuit ∙ sym (ap (λ (s : State). s.circuits.rows) carries.next));
  counts = λ r a b.
      let before = keeps.counts r a b in
      let same : count_of (counts_of r mid.grants) a b ≡ count_of (counts_of r st.grants) a b = ap (λ (g : Grants). count_of (counts_of r g) a b) carries.counts in
      let there : count r (state_of mid) a b ≡ count r (skipped k n (state_of st)) a b = ap (λ (s : State). count r s a b) carries.next in
      let stays = same_count (state_of st) (skipped k n (state_of st)) (same_rows k n (state_of st)) r a b in
      omega (arith, before, same, there, stays);
}

-- ---- changes that move no count

-- other links, terminators, circuits and intercepts, and another setting
network_still : (links : Table Link) (terms : Table Terminator) (circuits : Table Circuit) (least : ℕ) (claims : List (ℕ × Intercept)) (s : State) (steps : GrantSteps) → HasNoSteps steps
    → LeadAllCounts s (record s { links = links; terminators = terms; circuits = circuits; least_router_cost = least; intercepts = claims }) steps
network_still links terms circuits least claims s steps none Dial = no_steps_lead s steps none Dial
network_still links terms circuits least claims s steps none Bind = no_steps_lead s steps none Bind
network_still links terms circuits least claims s steps none IdentityRouter = no_steps_lead s steps none IdentityRouter
network_still links terms circuits least claims s steps none ServiceRouter = no_steps_lead s steps none ServiceRouter

pub network_leads : (c : Change) (s : State) (steps : GrantSteps)
    → ((x : LinkChange) × (c ≡ change.Link x)) ⊎ (((x : TermChange) × (c ≡ change.Terminator x)) ⊎ (((x : CircuitChange) × (c ≡ change.Circuit x)) ⊎ ((x : InterceptChange) × (c ≡ change.Intercept x))))
    → HasNoSteps steps → LeadAllCounts s (after_change c s) steps
network_leads c s steps (inl of) none =
    let after = after_link_change of.0 (fabric_of s) in
    subst (λ d. LeadAllCounts s (after_change d s) steps) (sym of.1) (network_still after.links s.terminators s.circuits after.least s.intercepts s steps none)
network_leads c s steps (inr (inl of)) none =
    let after = after_term_change of.0 (terms_of s) in
    subst (λ d. LeadAllCounts s (after_change d s) steps) (sym of.1) (network_still s.links after.terminators s.circuits s.least_router_cost s.intercepts s steps none)
network_leads c s steps (inr (inr (inl of))) none =
    let after = after_circuit_change of.0 (circuits_of s) in
    subst (λ d. LeadAllCounts s (after_change d s) steps) (sym of.1) (network_still s.links s.terminators after.circuits s.least_router_cost s.intercepts s steps none)
network_leads c s steps (inr (inr (inr of))) none =
    let after = after_intercept_change of.0 s.intercepts in
    subst (λ d. LeadAllCounts s (after_change d s) steps) (sym of.1) (network_still s.links s.terminators s.circuits s.least_router_cost after s steps none)

-- ---- a record that may join

pub above : (k : Kind) (n : ℕ) (r : Record k) (s : State) → MayJoin k n r s → (table k s).next ≤ n
above k n r s may = (IsFlawless-from (λ j. may.end) k n r s may.flawless).above

pub joins_valid : (k : Kind) (n : ℕ) (r : Record k) (s : State) → ValidState s → MayJoin k n r s → ValidState (joined k n r s)
joins_valid k n r s v may = joined-valid (λ j. may.end) k n r s v may.last may.flawless

-- ---- routers

-- the marks of a router change no attribute in use
same_attributes : (n : ℕ) (q r : Router) → q.attributes ≡ r.attributes → (rows : List (ℕ × Router))
    → flat_map (λ (row : ℕ × Router). row.1.attributes) (with_last rows n q) ≡ flat_map (λ (row : ℕ × Router). row.1.attributes) (with_last rows n r)
same_attributes n q r e [] = ap (λ names. names ++ []) e
same_attributes n q r e (x ∷ rows) = ap (λ names. x.1.attributes ++ names) (same_attributes n q r e rows)

same_full : (n : ℕ) (q r : Router) (s : State) → q.attributes ≡ r.attributes → attributes_full (joined kind.Router n q s) ≡ attributes_full (joined kind.Router n r s)
same_full n q r s e =
    ap (λ (names : List (List ℕ)). nat_lt 4096 (distinct_count bytes_eq (flat_map (λ row. row.1.attributes) s.identities.rows ++ (flat_map (λ row. row.1.attributes) s.services.rows
    ++ (names ++ (flat_map side_attributes s.service_policies.rows ++ (flat_map side_attributes s.edge_router_policies.rows ++ flat_map side_attributes s.service_edge_router_policies.rows)))))))
    (same_attributes n q r e s.routers.rows)

-- a router as it is made, before it is marked
abbrev pub made : Router → Router
made r = record r { through = not (not r.through); connected = false }

made_flawless : (nexts : Kind → ℕ) (n : ℕ) (r : Router) (s : State) → IsFlawless nexts kind.Router n r s → IsFlawless nexts kind.Router n (made r) s
made_flawless nexts n r s f = record {
  above = f.above;
  below = f.below;
  sound = f.sound;
  new = f.new;
  supported = refl;
  few = f.few;
  attributes = same_full n (made r) r s refl ∙ f.attributes;
}

pub made_valid : (n : ℕ) (r : Router) (s : State) → ValidState s → MayJoin kind.Router n r s → ValidState (joined kind.Router n (made r) s)
made_valid n r s v may =
    flawless-valid (λ j. may.end) kind.Router n (made r) s v may.last (made_flawless (λ j. may.end) n r s (IsFlawless-from (λ j. may.end) kind.Router n r s may.flawless))

-- the numbers before a router that joins
numbers_before : (n : ℕ) (r : Router) (s : State) → ValidState s → MayJoin kind.Router n r s → Between 1 n s.routers.rows
numbers_before n r s v may =
    Between-more s.routers.next s.routers.rows 1 1 n (omega arith) (above kind.Router n r s may) (v.kinds kind.Router).numbers.ordered

-- the router that joined is there, and its mark makes it what it is to be
pub router_there : (n : ℕ) (r : Router) (s : State) → ValidState s → MayJoin kind.Router n r s → is_present (joined kind.Router n (made r) s).routers.rows n ≡ true
router_there n r s v may =
    let free : at s.routers.rows n ≡ None = at-past n s.routers.rows 1 n (numbers_before n r s v may) (omega arith) in
    ap is_some (at-with_last s.routers.rows n n (made r) free ∙ cond-true (n == n) (Some (made r)) (at s.routers.rows n) (eq-eqb n n refl))

pub router_marked : (n : ℕ) (r : Router) (s : State) → ValidState s → MayJoin kind.Router n r s
    → with_marked n r.cost r.through r.connected (joined kind.Router n (made r) s) ≡ joined kind.Router n r s
router_marked n r s v may =
    ap (λ rows. record s { routers = record { rows = rows; next = n + 1 } })
    (edit_at-with_last (λ (q : Router). record q { cost = r.cost; through = r.through; connected = r.connected }) n s.routers.rows 1 (made r) (numbers_before n r s v may))
