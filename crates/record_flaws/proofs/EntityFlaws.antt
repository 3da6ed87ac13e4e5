-- The flaws of an entity in a state that has the entities of a store and the policies whose uses the store holds.
use Rattle.std.proofs.Common.{◌≡◌, ℕ, ◌+◌, ◌<◌, ◌≤◌, Bool, true, false, not, ◌||◌, nat_lt, nat_le, List, [], length, Option, None, Some, refl, sym, ◌∙◌, ap, ap₂, subst, is_some, arith}
use Rattle.std.proofs.Math.Bool.{not-not}
use Rattle.std.proofs.lemmas.Bool.{le-leb, lt-leb, false≢true}
use Rattle.std.proofs.lemmas.List.{length-map}
use Rattle.std.specs.Option.{ok_or}
use Rattle.std.specs.Result.{is_ok}
use Rattle.ctrl_model.specs.declared.kinds.Kind.{Kind}
use Rattle.ctrl_model.specs.declared.kinds.Kind.TheVariants as kind
use Rattle.ctrl_model.specs.Limits.{limit}
use Rattle.ctrl_model.specs.State.{State, Entity, Router, as_entity}
use Rattle.ctrl_model.specs.Tables.{Record, table, record_name, is_entity_kind}
use Rattle.ctrl_model.specs.Rules.{attributes_in_use, attributes_full}
use Rattle.entity_store.specs.EntityTables.{Tables, entities, next_of, number_of}
use Rattle.entity_store.specs.AttributeUses.{times, has_attribute_room}
use Rattle.entity_store.specs.HeldUses.{with_entities, HoldsPolicies}
use Rattle.entity_store.specs.TableRules.{found}
use Rattle.entity_store.specs.declared.entities.EntityFault.TheVariants.{Unknown}
use Rattle.entity_store.proofs.TimesLaws.{times-with_last}
use Rattle.entity_store.proofs.InUseLaws.{in_use-parts, room_in_state}
use Rattle.state_building.specs.declared.flaws.Flaw.{Flaw}
use Rattle.state_building.specs.declared.flaws.Flaw.TheVariants.{NoRecord, OutOfOrder, NameTaken, TooMany}
use Rattle.state_building.specs.JoinedRecords.{joined, is_sound, is_supported, unsupported, is_out_of_order, is_name_taken, flaw_if, flaw_of}
use Rattle.record_flaws.specs.declared.coming.Coming.{Coming}
use Rattle.record_flaws.specs.FoundFlaws.{has_one_too_many, entity_flaw}
use Rattle.record_flaws.specs.StoresOfStates.{AreEntitiesOf}

-- ---- an entity that joins the state around a store's entities

-- The attributes of an entity.
abbrev pub attributes_of : (k : Kind) → Record k → List (List ℕ)
attributes_of kind.Identity e = e.attributes
attributes_of kind.Service e = e.attributes
attributes_of kind.Router r = r.attributes
attributes_of k r = []

-- The attributes in use are more by those of the entity.
joined_uses : (k : Kind) (n : ℕ) (r : Record k) (s : State) (x : List ℕ) → is_entity_kind k ≡ true
    → times x (attributes_in_use (joined k n r s)) ≡ times x (attributes_in_use s) + times x (attributes_of k r)
joined_uses kind.Identity n e s x is =
    let more = times-with_last (λ (q : Entity). q.attributes) x s.identities.rows n e in omega (arith, more, in_use-parts x s, in_use-parts x (joined kind.Identity n e s))
joined_uses kind.Service n e s x is =
    let more = times-with_last (λ (q : Entity). q.attributes) x s.services.rows n e in omega (arith, more, in_use-parts x s, in_use-parts x (joined kind.Service n e s))
joined_uses kind.Router n r s x is =
    let more = times-with_last (λ (q : Router). q.attributes) x s.routers.rows n r in omega (arith, more, in_use-parts x s, in_use-parts x (joined kind.Router n r s))
joined_uses _ n r s x is = absurd (false≢true is)

-- The state around the entities is the one that has them.
around : (t : Tables) (s : State) → AreEntitiesOf t s → with_entities t s ≡ s
around t s of = λ i. record s { identities = sym of.identities i; services = sym of.services i; routers = sym of.routers i }

-- Too many attributes are in use with the entity exactly where the store has no room for its own.
full_where_no_room : (k : Kind) (n : ℕ) (r : Record k) (t : Tables) (s : State) → is_entity_kind k ≡ true → HoldsPolicies t s
    → not (has_attribute_room t [] (attributes_of k r)) ≡ attributes_full (joined k n r (with_entities t s))
full_where_no_room k n r t s is held =
    let after = joined k n r (with_entities t s) in
    ap not (room_in_state t s [] (attributes_of k r) after held (λ x. let more = joined_uses k n r (with_entities t s) x is in omega (arith, more)))
    ∙ not-not (attributes_full after)

-- ---- the flaws

-- An entity is found exactly where one has the name.
found_entity : (k : Kind) (name : List ℕ) (t : Tables) → is_ok (found k name t) ≡ is_some (number_of k name t)
found_entity k name t = by (number_of k name t)
  where
    by : (o : Option ℕ) → is_ok (ok_or o Unknown) ≡ is_some o
    by None = refl
    by (Some n) = refl

-- A kind that is full, and one that is not, whose limit and number of entities are found.
pub full_kind : (k : Kind) (attributes : List (List ℕ)) (t : Tables) (most count : ℕ) → most ≡ limit k → count ≡ length (entities k t) → most ≤ count
    → nat_le most count ≡ has_one_too_many k attributes t
full_kind k attributes t most count most_is count_is full =
    let all : nat_le (limit k) (length (entities k t)) ≡ true = le-leb _ _ (omega (arith, most_is, count_is, full)) in
    le-leb most count full ∙ sym (ap (λ b. b || not (has_attribute_room t [] attributes)) all)

pub open_kind : (k : Kind) (attributes : List (List ℕ)) (t : Tables) (most count : ℕ) → most ≡ limit k → count ≡ length (entities k t) → count < most
    → not (has_attribute_room t [] attributes) ≡ has_one_too_many k attributes t
open_kind k attributes t most count most_is count_is open_yet =
    let few : nat_le (limit k) (length (entities k t)) ≡ false = lt-leb _ _ (omega (arith, most_is, count_is, open_yet)) in
    sym (ap (λ b. b || not (has_attribute_room t [] attributes)) few)

-- What is found of an entity gives its flaw.
pub found_flaw : (k : Kind) (c : Coming) (name : List ℕ) (attributes : List (List ℕ)) (t : Tables) (order taken many : Bool)
    → order ≡ (nat_lt c.number (next_of k t) || nat_le c.end c.number) → taken ≡ is_ok (found k name t) → many ≡ has_one_too_many k attributes t
    → flaw_if order OutOfOrder (flaw_if (not c.sound) NoRecord (flaw_if taken NameTaken (flaw_if many TooMany None))) ≡ entity_flaw k c name attributes t
found_flaw k c name attributes t order taken many order_is taken_is many_is =
    let named : taken ≡ is_some (number_of k name t) = taken_is ∙ found_entity k name t in
    λ i. flaw_if (order_is i) OutOfOrder (flaw_if (not c.sound) NoRecord (flaw_if (named i) NameTaken (flaw_if (many_is i) TooMany None)))

-- The flaw of an entity, by how many of its kind there are, whether it is sound and whether attributes are too many with it: as the
-- store tells it, and as it is in a state.
module _ (k : Kind) (c : Coming) (r : Record k) where
  abbrev told_by : Tables → ℕ → Bool → Bool → Option Flaw
  told_by t count sound full =
      flaw_if (nat_lt c.number (next_of k t) || nat_le c.end c.number) OutOfOrder
      (flaw_if (not sound) NoRecord
      (flaw_if (is_some (number_of k (record_name k r) t)) NameTaken
      (flaw_if (nat_le (limit k) count || full) TooMany None)))

  abbrev is_by : State → Bool → Bool → Option Flaw
  is_by s sound full =
      flaw_if (is_out_of_order (λ j. c.end) k c.number s) OutOfOrder
      (flaw_if (not sound) NoRecord
      (flaw_if (is_name_taken k r s) NameTaken
      (flaw_if (not (is_supported k s (c.number, r))) (unsupported k)
      (flaw_if (nat_le (limit k) (length (table k s).rows) || full) TooMany None))))

told_as_is : (k : Kind) (c : Coming) (r : Record k) (t : Tables) (s : State) (sound full : Bool) → is_entity_kind k ≡ true
    → told_by k c r t (length (entities k t)) sound full ≡ is_by k c r (with_entities t s) sound full
told_as_is kind.Identity c e t s sound full is = refl
told_as_is kind.Service c e t s sound full is = refl
told_as_is kind.Router c r t s sound full is =
    ap (λ count. told_by kind.Router c r t count sound full) (length-map t.routers.rows (λ row. (row.0, as_entity row.1)))
told_as_is _ c r t s sound full is = absurd (false≢true is)

-- The flaw that a store of entities tells is the one in the state that has them.
pub told_flaw : (k : Kind) (c : Coming) (r : Record k) (t : Tables) (s : State) → is_entity_kind k ≡ true → AreEntitiesOf t s → c.sound ≡ is_sound k r
    → entity_flaw k c (record_name k r) (attributes_of k r) t ≡ flaw_of (λ j. c.end) k c.number r s
told_flaw k c r t s is of sound =
    let around_t = with_entities t s in
    let full_told = not (has_attribute_room t [] (attributes_of k r)) in
    subst (λ (q : State). entity_flaw k c (record_name k r) (attributes_of k r) t ≡ flaw_of (λ j. c.end) k c.number r q) (around t s of)
    (told_as_is k c r t s c.sound full_told is ∙ ap₂ (is_by k c r around_t) sound (full_where_no_room k c.number r t s is of.held))
