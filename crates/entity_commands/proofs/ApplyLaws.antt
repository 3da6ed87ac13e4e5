-- What applying a change of an entity has to show: that a change that leads, once settled, to a valid state is allowed by the store.
use Rattle.std.proofs.Common.{◌≡◌, ℕ, ◌<◌, ◌==◌, Bool, true, false, cond, not, ◌&&◌, nat_lt, inl, List, [], ◌∷◌, length, Option, None, Some, Ok, Err, refl, sym, ◌∙◌, ap, arith, eq-eqb, lt-ltb, is_some}
use Rattle.std.proofs.lemmas.Bool.{cond-true, false≢true, and_parts}
use Rattle.std.proofs.lemmas.List.{length-map}
use Rattle.std.specs.Bool.{⊤}
use Rattle.std.specs.Option.{option_map}
use Rattle.std.specs.declared.result.Result.{Result}
use Rattle.ctrl_model.specs.declared.kinds.Kind.{Kind}
use Rattle.ctrl_model.specs.declared.kinds.Kind.TheVariants as kind
use Rattle.ctrl_model.specs.ValueForms.{is_cost, are_attributes}
use Rattle.ctrl_model.specs.NameForm.{is_name}
use Rattle.ctrl_model.specs.RecordCommands.{after_create}
use Rattle.ctrl_model.specs.EntityCommands.{new_router as made_router}
use Rattle.ctrl_model.specs.Numbered.{at, is_present, with_last, edit_at}
use Rattle.ctrl_model.specs.State.{Entity, Router, as_entity}
use Rattle.ctrl_model.specs.Tables.{table}
use Rattle.ctrl_model.specs.Settling.{settle}
use Rattle.ctrl_model.specs.ValidState.{ValidState, each_passes, is_valid_router}
use Rattle.ctrl_model.proofs.Members.{list_all-among, at-row, Among-append_right}
use Rattle.ctrl_model.proofs.NumberedLaws.{at-map, at-edit_at, by_is_some}
use Rattle.model_laws.proofs.NewRecords.{new_record}
use Rattle.entity_store.specs.declared.entities.EntityFault.{EntityFault}
use Rattle.entity_store.specs.declared.entities.EntityFault.TheVariants.{Exists, Full}
use Rattle.entity_store.specs.EntityTables.{Tables, entities, new_router, with_entity, with_attributes}
use Rattle.entity_store.specs.AttributeUses.{has_attribute_room}
use Rattle.entity_store.specs.TableRules.{may_add, attributes_at}
use Rattle.entity_store.specs.TableRules as table_rules
use Rattle.entity_store.proofs.TimesLaws.{Between-from_map}
use Rattle.entity_store.proofs.InUseLaws.{has_room_in_state}
use Rattle.entity_store.specs.declared.changes.EntityChange.{EntityChange}
use Rattle.entity_store.specs.declared.changes.EntityChange.TheVariants as change
use Rattle.entity_commands.specs.EntityChanges.{is_plain_kind, with_plain, with_described, with_described_router, entered, CanEnter, CanChangeEntities}
use Rattle.entity_commands.proofs.Arounds.{Around, state_of, HoldsPolicies}
use Rattle.entity_commands.proofs.UsedLaws.{added, added_router, described_identity, described_service, described_router}
use Rattle.entity_commands.proofs.EntityPlans.{named_as, there_from_number}

-- ---- an entity may be added

may_by : (k : Kind) (taken : Option ℕ) (rows most n : ℕ) → taken ≡ None → rows < most → n < 4294967295
    → ◌≡◌ {A = Result ⊤ EntityFault} (cond (is_some taken) (Err Exists) (cond (nat_lt rows most && nat_lt n 4294967295) (Ok tt) (Err (Full k)))) (Ok tt)
may_by k taken rows most n free few last =
    rw (free, lt-ltb rows most few, lt-ltb n 4294967295 last) refl

pub may_add_plain : (k : Kind) (name : List ℕ) (attributes : List (List ℕ)) (st : Around) → is_plain_kind k ≡ true → ValidState (settle (with_plain k name attributes (state_of st)))
    → may_add k name st.entities ≡ Ok tt
may_add_plain kind.Identity name attributes st plain valid =
    let new = new_record kind.Identity st.entities.identities (record { name = name; attributes = attributes }) refl (valid.kinds kind.Identity) in
    may_by kind.Identity _ (length st.entities.identities.rows) 2048 st.entities.identities.next new.named new.few new.last
may_add_plain kind.Service name attributes st plain valid =
    let new = new_record kind.Service st.entities.services (record { name = name; attributes = attributes }) refl (valid.kinds kind.Service) in
    may_by kind.Service _ (length st.entities.services.rows) 512 st.entities.services.next new.named new.few new.last
may_add_plain _ name attributes st plain valid = absurd (false≢true plain)

pub may_add_router : (name : List ℕ) (attributes : List (List ℕ)) (cost : ℕ) (no_traversal : Bool) (st : Around) → ValidState (settle (after_create kind.Router (made_router name attributes cost no_traversal) (state_of st)))
    → may_add kind.Router name st.entities ≡ Ok tt
may_add_router name attributes cost no_traversal st valid =
    let new = new_record kind.Router st.entities.routers (made_router name attributes cost no_traversal) refl (valid.kinds kind.Router) in
    let room : length st.entities.routers.rows < 256 = new.few in
    let few : length (entities kind.Router st.entities) < 256 = let same = length-map {B = ℕ × Entity} st.entities.routers.rows (λ (row : ℕ × Router). (row.0, as_entity row.1)) in omega (arith, same, room) in
    may_by kind.Router _ (length (entities kind.Router st.entities)) 256 st.entities.routers.next new.named few new.last

-- ---- there is room for its attributes

pub room_to_add : (k : Kind) (name : List ℕ) (attributes : List (List ℕ)) (st : Around) → is_plain_kind k ≡ true → HoldsPolicies st
    → ValidState (settle (with_plain k name attributes (state_of st))) → has_attribute_room st.entities [] attributes ≡ true
room_to_add k name attributes st plain held valid =
    has_room_in_state st.entities st.rest [] attributes (with_plain k name attributes (state_of st)) held (λ x. let more = added k name attributes (state_of st) plain x in omega (arith, more)) valid.attributes

pub room_to_add_router : (name : List ℕ) (attributes : List (List ℕ)) (cost : ℕ) (no_traversal : Bool) (st : Around) → HoldsPolicies st
    → ValidState (settle (after_create kind.Router (made_router name attributes cost no_traversal) (state_of st))) → has_attribute_room st.entities [] attributes ≡ true
room_to_add_router name attributes cost no_traversal st held valid =
    has_room_in_state st.entities st.rest [] attributes (after_create kind.Router (made_router name attributes cost no_traversal) (state_of st)) held
    (λ x. let more = added_router name attributes cost no_traversal (state_of st) x in omega (arith, more)) valid.attributes

pub room_to_describe : (k : Kind) (n : ℕ) (attributes : List (List ℕ)) (st : Around) → is_plain_kind k ≡ true → is_present (table k (state_of st)).rows n ≡ true → HoldsPolicies st
    → ValidState (settle (with_described k n attributes (state_of st))) → has_attribute_room st.entities (attributes_at k n st.entities) attributes ≡ true
room_to_describe kind.Identity n attributes st plain there held valid =
    by_is_some (at st.entities.identities.rows n) there (λ e stands.
    rw stands (has_room_in_state st.entities st.rest e.attributes attributes (with_described kind.Identity n attributes (state_of st)) held
    (described_identity n attributes (state_of st) st.entities.identities.next e
    (Between-from_map (λ (x : ℕ × Entity). cond (x.0 == n) (record x.1 { attributes = attributes }) x.1) st.entities.identities.next st.entities.identities.rows 1 (valid.kinds kind.Identity).numbers.ordered) stands) valid.attributes))
room_to_describe kind.Service n attributes st plain there held valid =
    by_is_some (at st.entities.services.rows n) there (λ e stands.
    rw stands (has_room_in_state st.entities st.rest e.attributes attributes (with_described kind.Service n attributes (state_of st)) held
    (described_service n attributes (state_of st) st.entities.services.next e
    (Between-from_map (λ (x : ℕ × Entity). cond (x.0 == n) (record x.1 { attributes = attributes }) x.1) st.entities.services.next st.entities.services.rows 1 (valid.kinds kind.Service).numbers.ordered) stands) valid.attributes))
room_to_describe _ n attributes st plain there held valid = absurd (false≢true plain)

-- a router with other attributes, another cost and other marks
abbrev pub described : List (List ℕ) → ℕ → Bool → Bool → Router → Router
described attributes cost through connected r = record r { attributes = attributes; cost = cost; through = through; connected = connected }

-- a router with another cost and other marks
abbrev pub marked : ℕ → Bool → Bool → Router → Router
marked cost through connected r = record r { cost = cost; through = through; connected = connected }

pub room_to_describe_router : (n : ℕ) (attributes : List (List ℕ)) (cost : ℕ) (through connected : Bool) (st : Around) → is_present st.entities.routers.rows n ≡ true → HoldsPolicies st
    → ValidState (settle (with_described_router n attributes cost through connected (state_of st))) → has_attribute_room st.entities (attributes_at kind.Router n st.entities) attributes ≡ true
room_to_describe_router n attributes cost through connected st there held valid =
    by_is_some (at st.entities.routers.rows n) there (λ r stands.
    let before : at (entities kind.Router st.entities) n ≡ Some (as_entity r) = at-map (λ row. as_entity row.1) st.entities.routers.rows n ∙ ap (option_map as_entity) stands in
    rw before (has_room_in_state st.entities st.rest r.attributes attributes (with_described_router n attributes cost through connected (state_of st)) held
    (λ x. described_router n attributes (described attributes cost through connected) (state_of st) st.entities.routers.next r
    (Between-from_map (λ (y : ℕ × Router). cond (y.0 == n) (described attributes cost through connected y.1) y.1) st.entities.routers.next st.entities.routers.rows 1 (valid.kinds kind.Router).numbers.ordered)
    stands refl x) valid.attributes))

-- ---- costs are in their range

cost_of : (r : Router) → is_valid_router r ≡ true → is_cost r.cost ≡ true
cost_of r valid = (and_parts (are_attributes r.attributes) (is_cost r.cost) (and_parts (is_name r.name) (are_attributes r.attributes && is_cost r.cost) valid).1).1

pub cost_of_edit : (rows : List (ℕ × Router)) (n : ℕ) (f : Router → Router) (cost : ℕ) → ((r : Router) → (f r).cost ≡ cost) → is_present rows n ≡ true
    → each_passes is_valid_router (edit_at rows n f) ≡ true → is_cost cost ≡ true
cost_of_edit rows n f cost costs there each =
    by_is_some (at rows n) there (λ r stands.
    let after : at (edit_at rows n f) n ≡ Some (f r) =
    at-edit_at rows n n f ∙ ap (option_map (λ q. cond (n == n) (f q) q)) stands ∙ ap Some (cond-true (n == n) (f r) r (eq-eqb n n refl)) in
    sym (ap is_cost (costs r)) ∙ cost_of (f r) (list_all-among (λ (row : ℕ × Router). is_valid_router row.1) (edit_at rows n f) (n, f r) each (at-row (edit_at rows n f) n (f r) after)))

pub cost_of_new : (rows : List (ℕ × Router)) (n : ℕ) (r : Router) → each_passes is_valid_router (with_last rows n r) ≡ true → is_cost r.cost ≡ true
cost_of_new rows n r each =
    cost_of r (list_all-among (λ (row : ℕ × Router). is_valid_router row.1) (with_last rows n r) (n, r) each (Among-append_right rows ((n, r) ∷ []) (n, r) (inl refl)))

-- ---- a router that is there, is added or is changed is there

some_map : (o : Option Router) → is_some o ≡ true → is_some (option_map as_entity o) ≡ true
some_map None h = h
some_map (Some r) h = refl

pub router_there : (n : ℕ) (t : Tables) → is_present t.routers.rows n ≡ true → table_rules.is_there kind.Router n t ≡ true
router_there n t there = ap is_some (at-map (λ row. as_entity row.1) t.routers.rows n) ∙ some_map (at t.routers.rows n) there

pub there_added : (name : List ℕ) (attributes : List (List ℕ)) (t : Tables) → table_rules.is_there kind.Router t.routers.next (with_entity kind.Router name attributes t) ≡ true
there_added name attributes t = router_there t.routers.next (with_entity kind.Router name attributes t) (present t.routers.rows)
  where
    past : (b : Bool) (r : Router) (o : Option Router) → is_some o ≡ true → is_some (cond b (Some r) o) ≡ true
    past true r o h = refl
    past false r o h = h

    present : (rows : List (ℕ × Router)) → is_present (with_last rows t.routers.next (new_router name attributes)) t.routers.next ≡ true
    present [] = ap (λ b. is_some (cond b (Some (new_router name attributes)) None)) (eq-eqb t.routers.next t.routers.next refl)
    present (x ∷ rows) = past (x.0 == t.routers.next) x.1 (at (with_last rows t.routers.next (new_router name attributes)) t.routers.next) (present rows)

pub there_described : (n : ℕ) (attributes : List (List ℕ)) (t : Tables) → is_present t.routers.rows n ≡ true → table_rules.is_there kind.Router n (with_attributes kind.Router n attributes t) ≡ true
there_described n attributes t there =
    router_there n (with_attributes kind.Router n attributes t)
    (ap is_some (at-edit_at t.routers.rows n n (λ r. record r { attributes = attributes })) ∙ some (at t.routers.rows n) there)
  where
    some : (o : Option Router) → is_some o ≡ true → is_some (option_map (λ (r : Router). cond (n == n) (record r { attributes = attributes }) r) o) ≡ true
    some None h = h
    some (Some r) h = refl

unmapped : (o : Option Router) → is_some (option_map as_entity o) ≡ true → is_some o ≡ true
unmapped None h = h
unmapped (Some r) h = refl

-- a router that gets other attributes is there afterwards
pub there_after : (n : ℕ) (attributes : List (List ℕ)) (t : Tables) → table_rules.is_there kind.Router n t ≡ true → table_rules.is_there kind.Router n (with_attributes kind.Router n attributes t) ≡ true
there_after n attributes t there =
    there_described n attributes t (unmapped (at t.routers.rows n) (sym (ap is_some (at-map (λ row. as_entity row.1) t.routers.rows n)) ∙ there))

-- ---- each change

plain_there : (k : Kind) (n : ℕ) (st : Around) → is_plain_kind k ≡ true → is_present (table k (state_of st)).rows n ≡ true → table_rules.is_there k n st.entities ≡ true
plain_there kind.Identity n st plain there = there
plain_there kind.Service n st plain there = there
plain_there _ n st plain there = absurd (false≢true plain)

-- a change that leads, once settled, to a valid state is allowed by the store
pub can_apply : (c : EntityChange) (st : Around) → CanEnter c (state_of st) → ValidState (settle (entered c (state_of st))) → HoldsPolicies st → CanChangeEntities c st.entities
can_apply (change.Add k name attributes) st plain valid held =
    (plain, may_add_plain k name attributes st plain valid, room_to_add k name attributes st plain held valid)
can_apply (change.AddRouter name attributes cost through) st can valid held = (
  may_add_router name attributes cost (not through) st valid,
  room_to_add_router name attributes cost (not through) st held valid,
  cost_of_new st.entities.routers.rows st.entities.routers.next (made_router name attributes cost (not through)) (valid.kinds kind.Router).each,
)
can_apply (change.Describe k n attributes) st can valid held =
    (can.0, plain_there k n st can.0 can.1, room_to_describe k n attributes st can.0 can.1 held valid)
can_apply (change.DescribeRouter n attributes cost through connected) st there valid held = (
  router_there n st.entities there,
  room_to_describe_router n attributes cost through connected st there held valid,
  cost_of_edit st.entities.routers.rows n (described attributes cost through connected) cost (λ r. refl) there (valid.kinds kind.Router).each,
)
can_apply (change.Mark n cost through connected) st there valid held =
    (router_there n st.entities there, cost_of_edit st.entities.routers.rows n (marked cost through connected) cost (λ r. refl) there (valid.kinds kind.Router).each)
can_apply (change.Remove k n name) st can valid held =
    (can.0, there_from_number k name st.entities n (sym (named_as k name st can.0) ∙ can.1))
