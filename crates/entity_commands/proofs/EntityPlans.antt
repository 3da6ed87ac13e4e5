-- What planning for an entity has to show: that the refusals are the controller's, and that the change leads to the controller's next
-- state.
use Rattle.std.proofs.Common.{◌≡◌, ℕ, ◌+◌, ◌≤◌, ◌==◌, Bool, true, false, cond, not, ◌&&◌, nat_lt, bytes_eq, eq-eqb, List, [], ◌∷◌, ◌++◌, Option, None, Some, Ok, Err, refl, sym, ◌∙◌, ap, subst, arith, is_some}
use Rattle.std.proofs.Math.Bool.{not-not}
use Rattle.std.proofs.lemmas.Bool.{false≢true}
use Rattle.std.proofs.lemmas.List.{length-map}
use Rattle.std.proofs.lemmas.Option.{same_Some, none-some}
use Rattle.std.specs.List.{flat_map}
use Rattle.std.specs.Option.{ok_or, option_map, option_map_or}
use Rattle.ctrl_model.specs.RecordCommands.{after_create, after_update, refusal_of_create, refusal_of_update, delete}
use Rattle.ctrl_model.specs.declared.kinds.Kind.{Kind}
use Rattle.ctrl_model.specs.declared.kinds.Kind.TheVariants as kind
use Rattle.ctrl_model.specs.declared.refusals.Field.TheVariants as field
use Rattle.ctrl_model.specs.declared.refusals.Refusal.{Refusal}
use Rattle.ctrl_model.specs.declared.refusals.Refusal.TheVariants.{Full, Unknown}
use Rattle.ctrl_model.specs.declared.replies.Reply.TheVariants.{Done, Made}
use Rattle.ctrl_model.specs.Numbered.{with_edit, at, is_present, edit_at, first_where}
use Rattle.ctrl_model.specs.State.{State, Entity, Router, as_entity}
use Rattle.ctrl_model.specs.Tables.{named, is_entity_kind}
use Rattle.ctrl_model.specs.Rules.{or_then, refuse_if, unknown_if_absent, exists_if_present, at_number, attributes_in_use, attributes_full}
use Rattle.ctrl_model.specs.EntityCommands.{entity, described, new_router, described_router, marked, create_router, update_router, mark_router}
use Rattle.ctrl_model.proofs.NumberedLaws.{at-map, at-map-back}
use Rattle.model_laws.specs.Plans.{refused, changed}
use Rattle.model_laws.proofs.PlannedLaws.{plans_refused, plans_carried}
use Rattle.entity_store.specs.declared.entities.EntityFault.{EntityFault}
use Rattle.entity_store.specs.declared.entities.EntityFault.TheVariants as fault
use Rattle.entity_store.specs.EntityTables.{Tables, entities, next_of, number_of}
use Rattle.entity_store.specs.AttributeUses.{times, uses, entity_attributes, has_attribute_room}
use Rattle.entity_store.specs.TableRules.{has_kind_room, found, is_there, attributes_at}
use Rattle.entity_store.proofs.UseLaws.{times-append}
use Rattle.entity_store.proofs.TimesLaws.{times-at, edit_at-same}
use Rattle.entity_store.proofs.InUseLaws.{room_in_state}
use Rattle.entity_store.specs.declared.changes.EntityChange.TheVariants as change
use Rattle.entity_commands.specs.EntityChanges.{is_plain_kind, with_described, without_named}
use Rattle.entity_commands.specs.EntityPlans.{PlansEntities}
use Rattle.entity_commands.specs.PlannedEntities.{answer_add, answer_update, refusal_of_add, refusal_of_describe}
use Rattle.entity_commands.proofs.Arounds.{Around, state_of, HoldsPolicies, Keeps}
use Rattle.entity_commands.proofs.UsedLaws.{added, added_router, described_identity, described_service, described_router as router_in_use}

-- ---- a new entity

-- where uses come and none goes
new_room : (st : Around) (attributes : List (List ℕ)) (t : State) → HoldsPolicies st
    → ((x : List ℕ) → times x (attributes_in_use t) ≡ times x (attributes_in_use (state_of st)) + times x attributes)
    → not (has_attribute_room st.entities [] attributes) ≡ attributes_full t
new_room st attributes t held balance =
    ap not (room_in_state st.entities st.rest [] attributes t held (λ x. let all = balance x in omega (arith, all))) ∙ not-not (attributes_full t)

-- the refusals of planning are the controller's
refused_identity : (name : List ℕ) (attributes : List (List ℕ)) (st : Around) → HoldsPolicies st
    → refusal_of_add kind.Identity name attributes st.entities ≡ refusal_of_create kind.Identity (entity name attributes) (state_of st)
refused_identity name attributes st held =
    ap (λ b. or_then (exists_if_present (number_of kind.Identity name st.entities)) (or_then (refuse_if (not (has_kind_room kind.Identity st.entities)) (Full kind.Identity)) (refuse_if b (Full kind.Attribute))))
    (new_room st attributes (after_create kind.Identity (entity name attributes) (state_of st)) held (added kind.Identity name attributes (state_of st) refl))

refused_service : (name : List ℕ) (attributes : List (List ℕ)) (st : Around) → HoldsPolicies st
    → refusal_of_add kind.Service name attributes st.entities ≡ refusal_of_create kind.Service (entity name attributes) (state_of st)
refused_service name attributes st held =
    ap (λ b. or_then (exists_if_present (number_of kind.Service name st.entities)) (or_then (refuse_if (not (has_kind_room kind.Service st.entities)) (Full kind.Service)) (refuse_if b (Full kind.Attribute))))
    (new_room st attributes (after_create kind.Service (entity name attributes) (state_of st)) held (added kind.Service name attributes (state_of st) refl))

refused_router : (name : List ℕ) (attributes : List (List ℕ)) (cost : ℕ) (no_traversal : Bool) (st : Around) → HoldsPolicies st
    → refusal_of_add kind.Router name attributes st.entities ≡ refusal_of_create kind.Router (new_router name attributes cost no_traversal) (state_of st)
refused_router name attributes cost no_traversal st held =
    ap (λ b. or_then (exists_if_present (number_of kind.Router name st.entities)) (or_then (refuse_if (not (has_kind_room kind.Router st.entities)) (Full kind.Router)) (refuse_if b (Full kind.Attribute))))
    (new_room st attributes (after_create kind.Router (new_router name attributes cost no_traversal) (state_of st)) held (added_router name attributes cost no_traversal (state_of st)))
    ∙ ap (λ n. or_then (exists_if_present (number_of kind.Router name st.entities)) (or_then (refuse_if (not (nat_lt n 256 && nat_lt st.entities.routers.next 4294967295)) (Full kind.Router)) (refuse_if (attributes_full (after_create kind.Router (new_router name attributes cost no_traversal) (state_of st))) (Full kind.Attribute))))
    (length-map st.entities.routers.rows (λ row. (row.0, record { name = row.1.name; attributes = row.1.attributes })))

pub add_refused : (k : Kind) (name : List ℕ) (attributes : List (List ℕ)) (st : Around) (r : Refusal) → is_plain_kind k ≡ true → HoldsPolicies st
    → Some r ≡ refusal_of_add k name attributes st.entities → PlansEntities (refused r) (answer_add k name attributes (state_of st)) (state_of st)
add_refused kind.Identity name attributes st r plain held e = plans_refused _ r (state_of st) _ _ (sym (refused_identity name attributes st held) ∙ sym e)
add_refused kind.Service name attributes st r plain held e = plans_refused _ r (state_of st) _ _ (sym (refused_service name attributes st held) ∙ sym e)
add_refused _ name attributes st r plain held e = absurd (false≢true plain)

pub add_planned : (k : Kind) (name : List ℕ) (attributes : List (List ℕ)) (st : Around) (n : ℕ) → is_plain_kind k ≡ true → HoldsPolicies st
    → None ≡ refusal_of_add k name attributes st.entities → n ≡ next_of k st.entities
    → PlansEntities (changed (Made n) (change.Add k name attributes)) (answer_add k name attributes (state_of st)) (state_of st)
add_planned kind.Identity name attributes st n plain held e is =
    subst (λ m. PlansEntities (changed (Made m) (change.Add kind.Identity name attributes)) (answer_add kind.Identity name attributes (state_of st)) (state_of st)) (sym is)
    (plans_carried (change.Add kind.Identity name attributes) _ (state_of st) _ _ (sym (refused_identity name attributes st held) ∙ sym e) refl refl refl)
add_planned kind.Service name attributes st n plain held e is =
    subst (λ m. PlansEntities (changed (Made m) (change.Add kind.Service name attributes)) (answer_add kind.Service name attributes (state_of st)) (state_of st)) (sym is)
    (plans_carried (change.Add kind.Service name attributes) _ (state_of st) _ _ (sym (refused_service name attributes st held) ∙ sym e) refl refl refl)
add_planned _ name attributes st n plain held e is = absurd (false≢true plain)

pub router_refused : (name : List ℕ) (attributes : List (List ℕ)) (cost : ℕ) (no_traversal : Bool) (st : Around) (r : Refusal) → HoldsPolicies st
    → Some r ≡ refusal_of_add kind.Router name attributes st.entities → PlansEntities (refused r) (create_router name attributes cost no_traversal (state_of st)) (state_of st)
router_refused name attributes cost no_traversal st r held e =
    plans_refused _ r (state_of st) _ _ (sym (refused_router name attributes cost no_traversal st held) ∙ sym e)

pub router_planned : (name : List ℕ) (attributes : List (List ℕ)) (cost : ℕ) (no_traversal : Bool) (st : Around) (n : ℕ) → HoldsPolicies st
    → None ≡ refusal_of_add kind.Router name attributes st.entities → n ≡ st.entities.routers.next
    → PlansEntities (changed (Made n) (change.AddRouter name attributes cost (not no_traversal))) (create_router name attributes cost no_traversal (state_of st)) (state_of st)
router_planned name attributes cost no_traversal st n held e is =
    subst (λ m. PlansEntities (changed (Made m) (change.AddRouter name attributes cost (not no_traversal))) (create_router name attributes cost no_traversal (state_of st)) (state_of st)) (sym is)
    (plans_carried (change.AddRouter name attributes cost (not no_traversal)) _ (state_of st) _ _ (sym (refused_router name attributes cost no_traversal st held) ∙ sym e) refl tt
    (ap (λ b. after_create kind.Router (new_router name attributes cost b) (state_of st)) (not-not no_traversal)))

-- ---- a present entity

-- the number that a search finds is that of a record
present-first_where : {R : Type 0} (test : R → Bool) (rows : List (ℕ × R)) (n : ℕ) → first_where test rows ≡ Some n → is_present rows n ≡ true
present-first_where test [] n e = absurd (none-some n e)
present-first_where {R} test (x ∷ rows) n e = by (test x.1) e (present-first_where test rows n)
  where
    past : (b : Bool) (o : Option R) → is_some o ≡ true → is_some (cond b (Some x.1) o) ≡ true
    past true o h = refl
    past false o h = h

    by : (b : Bool) → cond b (Some x.0) (first_where test rows) ≡ Some n → (first_where test rows ≡ Some n → is_present rows n ≡ true)
        → is_some (cond (x.0 == n) (Some x.1) (at rows n)) ≡ true
    by true s k = ap (λ b. is_some (cond b (Some x.1) (at rows n))) (eq-eqb x.0 n (same_Some x.0 n s))
    by false s k = past (x.0 == n) (at rows n) (k s)

some_of_map : {R S : Type 0} (f : R → S) (o : Option R) → is_some o ≡ true → is_some (option_map f o) ≡ true
some_of_map f None e = e
some_of_map f (Some r) e = refl

-- a named entity is there, in the store and in the state
pub there_from_number : (k : Kind) (name : List ℕ) (t : Tables) (n : ℕ) → number_of k name t ≡ Some n → is_there k n t ≡ true
there_from_number kind.Identity name t n e = present-first_where (λ r. bytes_eq r.name name) t.identities.rows n e
there_from_number kind.Service name t n e = present-first_where (λ r. bytes_eq r.name name) t.services.rows n e
there_from_number kind.Router name t n e =
    ap is_some (at-map (λ row. as_entity row.1) t.routers.rows n) ∙ some_of_map as_entity (at t.routers.rows n) (present-first_where (λ r. bytes_eq r.name name) t.routers.rows n e)
there_from_number _ name t n e = absurd (none-some n e)

-- the number that a name of a kind of entity finds, in the state
pub named_as : (k : Kind) (name : List ℕ) (st : Around) → is_entity_kind k ≡ true → named k (state_of st) name ≡ number_of k name st.entities
named_as kind.Identity name st is_kind = refl
named_as kind.Service name st is_kind = refl
named_as kind.Router name st is_kind = refl
named_as _ name st is_kind = absurd (false≢true is_kind)

-- what a look-up by name answers
pub number_from_found : (k : Kind) (name : List ℕ) (t : Tables) (n : ℕ) → Ok n ≡ found k name t → number_of k name t ≡ Some n
number_from_found k name t n e = by (number_of k name t) e
  where
    by : (o : Option ℕ) → Ok n ≡ ok_or o fault.Unknown → o ≡ Some n
    by None s = absurd (cc)
    by (Some m) s = let same : n ≡ m = cc in ap Some (sym same)

pub absent_from_found : (k : Kind) (name : List ℕ) (t : Tables) (f : EntityFault) → Err f ≡ found k name t → number_of k name t ≡ None
absent_from_found k name t f e = by (number_of k name t) e
  where
    by : (o : Option ℕ) → Err f ≡ ok_or o fault.Unknown → o ≡ None
    by None s = refl
    by (Some m) s = absurd (cc)

-- the attributes of a present entity are used
three : (x : List ℕ) (t : Tables) → times x (entity_attributes t) ≡ times x (flat_map (λ row. row.1.attributes) t.identities.rows) + (times x (flat_map (λ row. row.1.attributes) t.services.rows) + times x (flat_map (λ row. row.1.attributes) t.routers.rows))
three x t =
    let one = times-append x (flat_map (λ row. row.1.attributes) t.identities.rows) (flat_map (λ row. row.1.attributes) t.services.rows ++ flat_map (λ row. row.1.attributes) t.routers.rows) in
    let two = times-append x (flat_map (λ row. row.1.attributes) t.services.rows) (flat_map (λ row. row.1.attributes) t.routers.rows) in omega (arith, one, two)

pub used_of : (k : Kind) (t : Tables) (n : ℕ) (e : Entity) → Some e ≡ at (entities k t) n → (x : List ℕ) → times x e.attributes ≤ uses x t
used_of kind.Identity t n e is x = let some = times-at (λ r. r.attributes) x t.identities.rows n e (sym is) in let all = three x t in omega (arith, some, all)
used_of kind.Service t n e is x = let some = times-at (λ r. r.attributes) x t.services.rows n e (sym is) in let all = three x t in omega (arith, some, all)
used_of kind.Router t n e is x =
    let back = at-map-back (λ row. as_entity row.1) t.routers.rows n e (sym is) in by back.0 back.1 back.2
  where
    by : (r : Router) → at t.routers.rows n ≡ Some r → as_entity r ≡ e → times x e.attributes ≤ uses x t
    by r stands same =
        let some = times-at (λ q. q.attributes) x t.routers.rows n r stands in let all = three x t in
        let these : times x r.attributes ≡ times x e.attributes = ap (λ (q : Entity). times x q.attributes) same in
        omega (arith, some, all, these)
used_of _ t n e is x = absurd (none-some e (sym is))

-- ---- other attributes

by_there : {R P : Type 0} (o : Option R) → is_some o ≡ true → ((r : R) → o ≡ Some r → P) → P
by_there None e k = absurd (false≢true e)
by_there (Some r) e k = k r refl

-- what uses go with a present entity
gone_uses : (k : Kind) (n : ℕ) (t : Tables) (e : Entity) → at (entities k t) n ≡ Some e → attributes_at k n t ≡ e.attributes
gone_uses k n t e is = ap (λ o. option_map_or (λ (q : Entity). q.attributes) o []) is

identity_room : (n : ℕ) (fresh : List (List ℕ)) (st : Around) (e : Entity) → Keeps st → at st.entities.identities.rows n ≡ Some e
    → not (has_attribute_room st.entities (attributes_at kind.Identity n st.entities) fresh) ≡ attributes_full (with_described kind.Identity n fresh (state_of st))
identity_room n fresh st e keeps is =
    ap not (room_in_state st.entities st.rest (attributes_at kind.Identity n st.entities) fresh (with_described kind.Identity n fresh (state_of st)) keeps.held (λ x.
    let all = described_identity n fresh (state_of st) st.entities.identities.next e (keeps.valid.kinds kind.Identity).numbers.ordered is x in
    let gone : times x (attributes_at kind.Identity n st.entities) ≡ times x e.attributes = ap (times x) (gone_uses kind.Identity n st.entities e is) in
    omega (arith, all, gone))) ∙ not-not (attributes_full (with_described kind.Identity n fresh (state_of st)))

service_room : (n : ℕ) (fresh : List (List ℕ)) (st : Around) (e : Entity) → Keeps st → at st.entities.services.rows n ≡ Some e
    → not (has_attribute_room st.entities (attributes_at kind.Service n st.entities) fresh) ≡ attributes_full (with_described kind.Service n fresh (state_of st))
service_room n fresh st e keeps is =
    ap not (room_in_state st.entities st.rest (attributes_at kind.Service n st.entities) fresh (with_described kind.Service n fresh (state_of st)) keeps.held (λ x.
    let all = described_service n fresh (state_of st) st.entities.services.next e (keeps.valid.kinds kind.Service).numbers.ordered is x in
    let gone : times x (attributes_at kind.Service n st.entities) ≡ times x e.attributes = ap (times x) (gone_uses kind.Service n st.entities e is) in
    omega (arith, all, gone))) ∙ not-not (attributes_full (with_described kind.Service n fresh (state_of st)))

-- a router that is updated
abbrev pub updated_as : List (List ℕ) → ℕ → Bool → Router → Router
updated_as fresh cost through r = record r { attributes = fresh; cost = cost; through = through }

abbrev with_updated : ℕ → List (List ℕ) → ℕ → Bool → State → State
with_updated n fresh cost through s = record s { routers = with_edit n (updated_as fresh cost through) s.routers }

router_room : (n : ℕ) (fresh : List (List ℕ)) (cost : ℕ) (through : Bool) (st : Around) (r : Router) → Keeps st → at st.entities.routers.rows n ≡ Some r
    → not (has_attribute_room st.entities (attributes_at kind.Router n st.entities) fresh) ≡ attributes_full (with_updated n fresh cost through (state_of st))
router_room n fresh cost through st r keeps is =
    ap not (room_in_state st.entities st.rest (attributes_at kind.Router n st.entities) fresh (with_updated n fresh cost through (state_of st)) keeps.held (λ x.
    let all = router_in_use n fresh (updated_as fresh cost through) (state_of st) st.entities.routers.next r (keeps.valid.kinds kind.Router).numbers.ordered is refl x in
    let gone : times x (attributes_at kind.Router n st.entities) ≡ times x r.attributes =
    ap (times x) (gone_uses kind.Router n st.entities (as_entity r) (at-map (λ row. as_entity row.1) st.entities.routers.rows n ∙ ap (option_map as_entity) is)) in
    omega (arith, all, gone))) ∙ not-not (attributes_full (with_updated n fresh cost through (state_of st)))

-- the controller's effect, of the number that the name finds
identity_effect : (name : List ℕ) (attributes : List (List ℕ)) (st : Around) (n : ℕ) → number_of kind.Identity name st.entities ≡ Some n
    → after_update kind.Identity name (described attributes) (state_of st) ≡ with_described kind.Identity n attributes (state_of st)
identity_effect name attributes st n e = ap (λ o. at_number o (state_of st) (λ m. with_described kind.Identity m attributes (state_of st))) e

service_effect : (name : List ℕ) (attributes : List (List ℕ)) (st : Around) (n : ℕ) → number_of kind.Service name st.entities ≡ Some n
    → after_update kind.Service name (described attributes) (state_of st) ≡ with_described kind.Service n attributes (state_of st)
service_effect name attributes st n e = ap (λ o. at_number o (state_of st) (λ m. with_described kind.Service m attributes (state_of st))) e

router_effect : (name : List ℕ) (attributes : List (List ℕ)) (cost : ℕ) (no_traversal : Bool) (st : Around) (n : ℕ) → number_of kind.Router name st.entities ≡ Some n
    → after_update kind.Router name (described_router attributes cost no_traversal) (state_of st) ≡ with_updated n attributes cost (not no_traversal) (state_of st)
router_effect name attributes cost no_traversal st n e = ap (λ o. at_number o (state_of st) (λ m. with_updated m attributes cost (not no_traversal) (state_of st))) e

-- and its refusal
identity_refusal : (name : List ℕ) (attributes : List (List ℕ)) (st : Around) (n : ℕ) (r : Entity) → Keeps st → at st.entities.identities.rows n ≡ Some r
    → number_of kind.Identity name st.entities ≡ Some n → refusal_of_describe kind.Identity n attributes st.entities ≡ refusal_of_update kind.Identity name (described attributes) None (state_of st)
identity_refusal name attributes st n r keeps is e =
    ap (λ full. refuse_if full (Full kind.Attribute)) (identity_room n attributes st r keeps is ∙ ap attributes_full (sym (identity_effect name attributes st n e)))
    ∙ ap (λ o. or_then (unknown_if_absent field.Name o) (refuse_if (attributes_full (after_update kind.Identity name (described attributes) (state_of st))) (Full kind.Attribute))) (sym e)

service_refusal : (name : List ℕ) (attributes : List (List ℕ)) (st : Around) (n : ℕ) (r : Entity) → Keeps st → at st.entities.services.rows n ≡ Some r
    → number_of kind.Service name st.entities ≡ Some n → refusal_of_describe kind.Service n attributes st.entities ≡ refusal_of_update kind.Service name (described attributes) None (state_of st)
service_refusal name attributes st n r keeps is e =
    ap (λ full. refuse_if full (Full kind.Attribute)) (service_room n attributes st r keeps is ∙ ap attributes_full (sym (service_effect name attributes st n e)))
    ∙ ap (λ o. or_then (unknown_if_absent field.Name o) (refuse_if (attributes_full (after_update kind.Service name (described attributes) (state_of st))) (Full kind.Attribute))) (sym e)

router_refusal : (name : List ℕ) (attributes : List (List ℕ)) (cost : ℕ) (no_traversal : Bool) (st : Around) (n : ℕ) (r : Router) → Keeps st → at st.entities.routers.rows n ≡ Some r
    → number_of kind.Router name st.entities ≡ Some n → refusal_of_describe kind.Router n attributes st.entities ≡ refusal_of_update kind.Router name (described_router attributes cost no_traversal) None (state_of st)
router_refusal name attributes cost no_traversal st n r keeps is e =
    ap (λ full. refuse_if full (Full kind.Attribute)) (router_room n attributes cost (not no_traversal) st r keeps is ∙ ap attributes_full (sym (router_effect name attributes cost no_traversal st n e)))
    ∙ ap (λ o. or_then (unknown_if_absent field.Name o) (refuse_if (attributes_full (after_update kind.Router name (described_router attributes cost no_traversal) (state_of st))) (Full kind.Attribute))) (sym e)

-- a name that nothing has
pub update_unknown : (k : Kind) (name : List ℕ) (attributes : List (List ℕ)) (st : Around) → is_plain_kind k ≡ true → number_of k name st.entities ≡ None
    → PlansEntities (refused (Unknown field.Name)) (answer_update k name attributes (state_of st)) (state_of st)
update_unknown kind.Identity name attributes st plain absent =
    plans_refused _ (Unknown field.Name) (state_of st) _ _
    (ap (λ o. or_then (unknown_if_absent field.Name o) (refuse_if (attributes_full (after_update kind.Identity name (described attributes) (state_of st))) (Full kind.Attribute))) absent)
update_unknown kind.Service name attributes st plain absent =
    plans_refused _ (Unknown field.Name) (state_of st) _ _
    (ap (λ o. or_then (unknown_if_absent field.Name o) (refuse_if (attributes_full (after_update kind.Service name (described attributes) (state_of st))) (Full kind.Attribute))) absent)
update_unknown _ name attributes st plain absent = absurd (false≢true plain)

pub update_refused : (k : Kind) (name : List ℕ) (attributes : List (List ℕ)) (st : Around) (n : ℕ) (r : Refusal) → is_plain_kind k ≡ true → Keeps st
    → number_of k name st.entities ≡ Some n → Some r ≡ refusal_of_describe k n attributes st.entities
    → PlansEntities (refused r) (answer_update k name attributes (state_of st)) (state_of st)
update_refused kind.Identity name attributes st n r plain keeps found e = by_there (at st.entities.identities.rows n) (there_from_number kind.Identity name st.entities n found) (λ row stands.
    plans_refused _ r (state_of st) _ _ (sym (identity_refusal name attributes st n row keeps stands found) ∙ sym e))
update_refused kind.Service name attributes st n r plain keeps found e = by_there (at st.entities.services.rows n) (there_from_number kind.Service name st.entities n found) (λ row stands.
    plans_refused _ r (state_of st) _ _ (sym (service_refusal name attributes st n row keeps stands found) ∙ sym e))
update_refused _ name attributes st n r plain keeps found e = absurd (false≢true plain)

pub update_planned : (k : Kind) (name : List ℕ) (attributes : List (List ℕ)) (st : Around) (n : ℕ) → is_plain_kind k ≡ true → Keeps st
    → number_of k name st.entities ≡ Some n → None ≡ refusal_of_describe k n attributes st.entities
    → PlansEntities (changed Done (change.Describe k n attributes)) (answer_update k name attributes (state_of st)) (state_of st)
update_planned kind.Identity name attributes st n plain keeps found e = by_there (at st.entities.identities.rows n) (there_from_number kind.Identity name st.entities n found) (λ row stands.
    plans_carried (change.Describe kind.Identity n attributes) _ (state_of st) _ _
    (sym (identity_refusal name attributes st n row keeps stands found) ∙ sym e) refl (refl, there_from_number kind.Identity name st.entities n found)
    (sym (identity_effect name attributes st n found)))
update_planned kind.Service name attributes st n plain keeps found e = by_there (at st.entities.services.rows n) (there_from_number kind.Service name st.entities n found) (λ row stands.
    plans_carried (change.Describe kind.Service n attributes) _ (state_of st) _ _
    (sym (service_refusal name attributes st n row keeps stands found) ∙ sym e) refl (refl, there_from_number kind.Service name st.entities n found)
    (sym (service_effect name attributes st n found)))
update_planned _ name attributes st n plain keeps found e = absurd (false≢true plain)

-- ---- routers

-- a router that a name finds is found
pub found_seen : (name : List ℕ) (t : Tables) (n : ℕ) → number_of kind.Router name t ≡ Some n → None ≡ at t.routers.rows n → ⊥
found_seen name t n found e = by (at t.routers.rows n) (present-first_where (λ r. bytes_eq r.name name) t.routers.rows n found) e
  where
    by : (o : Option Router) → is_some o ≡ true → None ≡ o → ⊥
    by None h s = false≢true h
    by (Some r) h s = none-some r s

-- a router that a name finds is there
router_named_there : (name : List ℕ) (st : Around) (n : ℕ) → number_of kind.Router name st.entities ≡ Some n → is_present st.entities.routers.rows n ≡ true
router_named_there name st n e = present-first_where (λ r. bytes_eq r.name name) st.entities.routers.rows n e

pub update_router_unknown : (name : List ℕ) (attributes : List (List ℕ)) (cost : ℕ) (no_traversal : Bool) (st : Around) → number_of kind.Router name st.entities ≡ None
    → PlansEntities (refused (Unknown field.Name)) (update_router name attributes cost no_traversal (state_of st)) (state_of st)
update_router_unknown name attributes cost no_traversal st absent =
    plans_refused _ (Unknown field.Name) (state_of st) _ _
    (ap (λ o. or_then (unknown_if_absent field.Name o) (refuse_if (attributes_full (after_update kind.Router name (described_router attributes cost no_traversal) (state_of st))) (Full kind.Attribute))) absent)

pub update_router_refused : (name : List ℕ) (attributes : List (List ℕ)) (cost : ℕ) (no_traversal : Bool) (st : Around) (n : ℕ) (r : Refusal) → Keeps st
    → number_of kind.Router name st.entities ≡ Some n → Some r ≡ refusal_of_describe kind.Router n attributes st.entities
    → PlansEntities (refused r) (update_router name attributes cost no_traversal (state_of st)) (state_of st)
update_router_refused name attributes cost no_traversal st n r keeps found e = by_there (at st.entities.routers.rows n) (router_named_there name st n found) (λ row stands.
    plans_refused _ r (state_of st) _ _ (sym (router_refusal name attributes cost no_traversal st n row keeps stands found) ∙ sym e))

pub update_router_planned : (name : List ℕ) (attributes : List (List ℕ)) (cost : ℕ) (no_traversal : Bool) (st : Around) (n : ℕ) (r : Router) → Keeps st
    → number_of kind.Router name st.entities ≡ Some n → None ≡ refusal_of_describe kind.Router n attributes st.entities
    → Some r ≡ at st.entities.routers.rows n
    → PlansEntities (changed Done (change.DescribeRouter n attributes cost (not no_traversal) r.connected)) (update_router name attributes cost no_traversal (state_of st)) (state_of st)
update_router_planned name attributes cost no_traversal st n r keeps found e stands =
    let alike : edit_at st.entities.routers.rows n (λ row. record row { attributes = attributes; cost = cost; through = not no_traversal; connected = r.connected })
    ≡ edit_at st.entities.routers.rows n (updated_as attributes cost (not no_traversal)) =
    edit_at-same (λ row. record row { attributes = attributes; cost = cost; through = not no_traversal; connected = r.connected }) (updated_as attributes cost (not no_traversal))
    st.entities.routers.next st.entities.routers.rows 1 n r (keeps.valid.kinds kind.Router).numbers.ordered (sym stands) refl in
    plans_carried (change.DescribeRouter n attributes cost (not no_traversal) r.connected) _ (state_of st) _ _
    (sym (router_refusal name attributes cost no_traversal st n r keeps (sym stands) found) ∙ sym e) refl (router_named_there name st n found)
    (ap (λ rows. record (state_of st) { routers = record st.entities.routers { rows = rows } }) alike ∙ sym (router_effect name attributes cost no_traversal st n found))

pub mark_unknown : (name : List ℕ) (connected : Bool) (st : Around) → number_of kind.Router name st.entities ≡ None
    → PlansEntities (refused (Unknown field.Name)) (mark_router name connected (state_of st)) (state_of st)
mark_unknown name connected st absent = plans_refused _ (Unknown field.Name) (state_of st) _ _ (ap (unknown_if_absent field.Name) absent)

abbrev with_mark : ℕ → Bool → State → State
with_mark n connected s = record s { routers = with_edit n (λ r. record r { connected = connected }) s.routers }

pub mark_planned : (name : List ℕ) (connected : Bool) (st : Around) (n : ℕ) (r : Router) → Keeps st → number_of kind.Router name st.entities ≡ Some n
    → Some r ≡ at st.entities.routers.rows n
    → PlansEntities (changed Done (change.Mark n r.cost r.through connected)) (mark_router name connected (state_of st)) (state_of st)
mark_planned name connected st n r keeps found stands =
    let alike : edit_at st.entities.routers.rows n (λ row. record row { cost = r.cost; through = r.through; connected = connected })
    ≡ edit_at st.entities.routers.rows n (λ row. record row { connected = connected }) =
    edit_at-same (λ row. record row { cost = r.cost; through = r.through; connected = connected }) (λ row. record row { connected = connected })
    st.entities.routers.next st.entities.routers.rows 1 n r (keeps.valid.kinds kind.Router).numbers.ordered (sym stands) refl in
    let effect : after_update kind.Router name (marked connected) (state_of st) ≡ with_mark n connected (state_of st) = ap (λ o. at_number o (state_of st) (λ m. with_mark m connected (state_of st))) found in
    plans_carried (change.Mark n r.cost r.through connected) _ (state_of st) _ _
    (ap (unknown_if_absent field.Name) found) refl (router_named_there name st n found)
    (ap (λ rows. record (state_of st) { routers = record st.entities.routers { rows = rows } }) alike ∙ sym effect)

-- ---- a deletion

pub delete_unknown : (k : Kind) (name : List ℕ) (st : Around) → is_entity_kind k ≡ true → number_of k name st.entities ≡ None
    → PlansEntities (refused (Unknown field.Name)) (delete k field.Name name (state_of st)) (state_of st)
delete_unknown k name st is_kind absent =
    plans_refused _ (Unknown field.Name) (state_of st) _ _ (ap (unknown_if_absent field.Name) (named_as k name st is_kind ∙ absent))

pub delete_planned : (k : Kind) (name : List ℕ) (st : Around) (n : ℕ) → is_entity_kind k ≡ true → number_of k name st.entities ≡ Some n
    → PlansEntities (changed Done (change.Remove k n name)) (delete k field.Name name (state_of st)) (state_of st)
delete_planned k name st n is_kind found =
    let named_so : named k (state_of st) name ≡ Some n = named_as k name st is_kind ∙ found in
    plans_carried (change.Remove k n name) _ (state_of st) _ _ (ap (unknown_if_absent field.Name) named_so) refl (is_kind, named_so)
    (sym (ap (λ o. at_number o (state_of st) (λ m. without_named k m name (state_of st))) named_so))
