-- What applying a change of entities or policies has to show: that the stores stand for the state after it.
use Rattle.std.proofs.Common.{◌≡◌, ◌≢◌, ℕ, ◌+◌, ◌==◌, Bool, true, false, cond, not, List, [], ◌∷◌, ◌++◌, Some, refl, sym, ◌∙◌, ap, arith, eq-eqb, ne_eqb}
use Rattle.std.proofs.Math.Bool.{not-not}
use Rattle.std.proofs.lemmas.Bool.{cond-false, false≢true}
use Rattle.std.proofs.lemmas.List.Folds.{flat_map-map}
use Rattle.std.specs.List.{flat_map}
use Rattle.ctrl_model.specs.declared.kinds.Kind.{Kind}
use Rattle.ctrl_model.specs.declared.kinds.Kind.TheVariants as kind
use Rattle.ctrl_model.specs.RecordCommands.{after_create}
use Rattle.ctrl_model.specs.EntityCommands.{new_router as made_router}
use Rattle.ctrl_model.specs.Numbered.{with_new, with_last, edit_at, map_each, Between}
use Rattle.ctrl_model.specs.Rules.{side_attributes, forget_left, forget_right}
use Rattle.ctrl_model.specs.State.{State, Policy}
use Rattle.ctrl_model.specs.Tables.{is_entity_kind}
use Rattle.ctrl_model.specs.Settling.{settle}
use Rattle.ctrl_model.specs.ValidState.{ValidState}
use Rattle.model_laws.proofs.NewRecords.{new_record}
use Rattle.entity_store.specs.EntityTables.{Tables, new_router, with_entity, with_attributes, with_router, without_entity}
use Rattle.entity_store.specs.AttributeUses.{times, held_times}
use Rattle.entity_store.specs.declared.changes.EntityChange.{EntityChange}
use Rattle.entity_store.specs.declared.changes.EntityChange.TheVariants as change
use Rattle.entity_commands.specs.EntityChanges.{CanEnter, is_plain_kind, with_plain, with_described, with_described_router, without_named, entered, after_entity_change}
use Rattle.entity_commands.proofs.ApplyLaws.{marked}
use Rattle.policy_store.specs.PolicyTables.{PolicyTables, forgetting}
use Rattle.policy_store.specs.PolicyChanges.{after_policy_change, ruled}
use Rattle.policy_store.specs.declared.changes.PolicyChange.{PolicyChange}
use Rattle.policy_commands.specs.RuledPolicies.{Rules}
use Rattle.core_stores.specs.declared.stores.Stores.{Stores}
use Rattle.policy_commands.proofs.PolicyApplyLaws.{attributes_of}
use Rattle.intercepts.specs.InterceptChanges.{intercepts_after}
use Rattle.core_stores.specs.Claims.{claim_gone}
use Rattle.core_stores.specs.CarriedStates.{Carries}
use Rattle.policy_commands.specs.ForgottenEntities.{ForgetsEntity, forgetting_by}
use Rattle.core_stores.specs.StoredState.{HoldsPolicies}
use Rattle.core_stores.specs.StoredState.{state_of}

-- ---- the stores stand for the state after the change

-- where the entities change, and none of the uses that are held besides
carried : (st : Stores) (t : Tables) (s : State) → HoldsPolicies st → t.held ≡ st.entities.held → state_of (record st { entities = t }) ≡ s → Carries st (record st { entities = t }) s
carried st t s held same next = record { next = next; held = λ name. ap (held_times name) same ∙ held name; counts = refl }

edit_at-with_last : {R : Type 0} (f : R → R) (high : ℕ) (rows : List (ℕ × R)) (low : ℕ) (r : R) → Between low high rows → edit_at (with_last rows high r) high f ≡ with_last rows high (f r)
edit_at-with_last f high [] low r b = ap (λ c. (high, cond c (f r) r) ∷ []) (eq-eqb high high refl)
edit_at-with_last f high (x ∷ rows) low r b =
    let other : x.0 ≢ high = λ e. absurd (omega (arith, b.1, e)) in
    let head : cond (x.0 == high) (f x.1) x.1 ≡ x.1 = cond-false (x.0 == high) (f x.1) x.1 (ne_eqb x.0 high other) in
    let tail = edit_at-with_last f high rows (x.0 + 1) r b.2 in
    λ i. (x.0, head i) ∷ tail i

carried_router : (name : List ℕ) (attributes : List (List ℕ)) (cost : ℕ) (through : Bool) (st : Stores) → HoldsPolicies st
    → ValidState (settle (after_create kind.Router (made_router name attributes cost (not through)) (state_of st)))
    → Carries st (record st { entities = with_router st.entities.routers.next cost through false (with_entity kind.Router name attributes st.entities) })
    (after_create kind.Router (made_router name attributes cost (not through)) (state_of st))
carried_router name attributes cost through st held valid =
    let new = new_record kind.Router st.entities.routers (made_router name attributes cost (not through)) refl (valid.kinds kind.Router) in
    carried st _ _ held refl
    (ap (λ rows. record (state_of st) { routers = record { rows = rows; next = st.entities.routers.next + 1 } })
    (edit_at-with_last (marked cost through false) st.entities.routers.next st.entities.routers.rows 1 (new_router name attributes) new.ordered)
    ∙ ap (λ b. record (state_of st) {
      routers = with_new (record { name = name; attributes = attributes; cost = cost; through = b; connected = false }) st.entities.routers;
    }) (sym (not-not through)))

edit_at-twice : {R : Type 0} (f g : R → R) (rows : List (ℕ × R)) (n : ℕ) → edit_at (edit_at rows n f) n g ≡ edit_at rows n (λ r. g (f r))
edit_at-twice f g [] n = refl
edit_at-twice {R} f g (x ∷ rows) n = by (x.0 == n) (edit_at-twice f g rows n)
  where
    by : (b : Bool) → edit_at (edit_at rows n f) n g ≡ edit_at rows n (λ r. g (f r))
        → ◌≡◌ {A = List (ℕ × R)} ((x.0, cond b (g (cond b (f x.1) x.1)) (cond b (f x.1) x.1)) ∷ edit_at (edit_at rows n f) n g)
        ((x.0, cond b (g (f x.1)) x.1) ∷ edit_at rows n (λ r. g (f r)))
    by true e = λ i. (x.0, g (f x.1)) ∷ e i
    by false e = λ i. (x.0, x.1) ∷ e i

carried_described_router : (n : ℕ) (attributes : List (List ℕ)) (cost : ℕ) (through connected : Bool) (st : Stores) → HoldsPolicies st
    → Carries st (record st { entities = with_router n cost through connected (with_attributes kind.Router n attributes st.entities) })
    (with_described_router n attributes cost through connected (state_of st))
carried_described_router n attributes cost through connected st held =
    carried st _ _ held refl (ap (λ rows. record (state_of st) { routers = record st.entities.routers { rows = rows } }) (edit_at-twice (λ r. record r { attributes = attributes }) (marked cost through connected) st.entities.routers.rows n))

-- ---- an entity goes, and its name out of the sides of policies

left_forgotten : (name : List ℕ) (rows : List (ℕ × Policy)) → flat_map side_attributes (map_each (forget_left name) rows) ≡ flat_map side_attributes rows
left_forgotten name rows = flat_map-map side_attributes (λ (x : ℕ × Policy). (x.0, forget_left name x.1)) rows

right_forgotten : (name : List ℕ) (rows : List (ℕ × Policy)) → flat_map side_attributes (map_each (forget_right name) rows) ≡ flat_map side_attributes rows
right_forgotten name rows = flat_map-map side_attributes (λ (x : ℕ × Policy). (x.0, forget_right name x.1)) rows

forgotten_attributes : (k : Kind) (name : List ℕ) (p : PolicyTables) → attributes_of (forgetting k name p) ≡ attributes_of p
forgotten_attributes kind.Identity name p = λ i.
    left_forgotten name p.service_policies.rows i
    ++ (left_forgotten name p.edge_router_policies.rows i ++ flat_map side_attributes p.service_edge_router_policies.rows)
forgotten_attributes kind.Service name p = λ i.
    right_forgotten name p.service_policies.rows i
    ++ (flat_map side_attributes p.edge_router_policies.rows ++ left_forgotten name p.service_edge_router_policies.rows i)
forgotten_attributes kind.Router name p = λ i.
    flat_map side_attributes p.service_policies.rows
    ++ (right_forgotten name p.edge_router_policies.rows i ++ right_forgotten name p.service_edge_router_policies.rows i)
forgotten_attributes _ name p = refl

carried_removed : (k : Kind) (n : ℕ) (name : List ℕ) (st : Stores) → is_entity_kind k ≡ true → HoldsPolicies st
    → Carries st (record st { entities = without_entity k n st.entities; policies = forgetting k name st.policies; intercepts = intercepts_after (claim_gone (Some (change.Remove k n name))) st.intercepts })
    (without_named k n name (state_of st))
carried_removed k n name st is held = record {
  next = next k is;
  held = λ x. ap (held_times x) (same_held k) ∙ (held x ∙ ap (times x) (sym (forgotten_attributes k name st.policies)));
  counts = refl;
}
  where
    next : (j : Kind) → is_entity_kind j ≡ true
        → state_of (record st { entities = without_entity j n st.entities; policies = forgetting j name st.policies; intercepts = intercepts_after (claim_gone (Some (change.Remove j n name))) st.intercepts })
        ≡ without_named j n name (state_of st)
    next kind.Identity e = refl
    next kind.Service e = refl
    next kind.Router e = refl
    next _ e = absurd (false≢true e)

    same_held : (j : Kind) → (without_entity j n st.entities).held ≡ st.entities.held
    same_held kind.Identity = refl
    same_held kind.Service = refl
    same_held kind.Router = refl
    same_held _ = refl

-- ---- each change

-- an identity or a service comes, or gets other attributes
carried_plain : (k : Kind) (name : List ℕ) (attributes : List (List ℕ)) (st : Stores) → is_plain_kind k ≡ true → HoldsPolicies st
    → Carries st (record st { entities = with_entity k name attributes st.entities }) (with_plain k name attributes (state_of st))
carried_plain kind.Identity name attributes st plain held = carried st _ _ held refl refl
carried_plain kind.Service name attributes st plain held = carried st _ _ held refl refl
carried_plain _ name attributes st plain held = absurd (false≢true plain)

carried_described : (k : Kind) (n : ℕ) (attributes : List (List ℕ)) (st : Stores) → is_plain_kind k ≡ true → HoldsPolicies st
    → Carries st (record st { entities = with_attributes k n attributes st.entities }) (with_described k n attributes (state_of st))
carried_described kind.Identity n attributes st plain held = carried st _ _ held refl refl
carried_described kind.Service n attributes st plain held = carried st _ _ held refl refl
carried_described _ n attributes st plain held = absurd (false≢true plain)

-- the stores stand for the state after a change of the entities
pub carried_entity : (c : EntityChange) (st : Stores) → CanEnter c (state_of st) → ValidState (settle (entered c (state_of st))) → HoldsPolicies st
    → Carries st (record st { entities = after_entity_change c st.entities; policies = forgetting_by c st.policies; intercepts = intercepts_after (claim_gone (Some c)) st.intercepts }) (entered c (state_of st))
carried_entity (change.Add k name attributes) st plain valid held = carried_plain k name attributes st plain held
carried_entity (change.AddRouter name attributes cost through) st can valid held = carried_router name attributes cost through st held valid
carried_entity (change.Describe k n attributes) st can valid held = carried_described k n attributes st can.0 held
carried_entity (change.DescribeRouter n attributes cost through connected) st there valid held = carried_described_router n attributes cost through connected st held
carried_entity (change.Mark n cost through connected) st there valid held = carried st _ _ held refl refl
carried_entity (change.Remove k n name) st can valid held = carried_removed k n name st can.0 held

-- a change that removes an entity is one of a kind of entity
pub forgets_entity : (c : EntityChange) (s : State) → CanEnter c s → ForgetsEntity c
forgets_entity (change.Remove k n name) s can = can.0
forgets_entity _ s can = tt

-- ---- a change of the policies

pub carried_rules : (c : PolicyChange) (st : Stores) (t : Tables) (p : PolicyTables) → Rules c st.entities t st.policies p
    → Carries st (record st { entities = t; policies = p }) (ruled c (state_of st))
carried_rules c st t p rules = record {
  next = ap (λ (q : PolicyTables). state_of (record st { entities = t; policies = q })) rules.policies_are
      ∙ ap (λ (e : Tables). state_of (record st { entities = e; policies = after_policy_change c st.policies })) rules.entities_stay;
  held = rules.held;
  counts = refl;
}
