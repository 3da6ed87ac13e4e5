-- What a store keeps, before and after each change: each kind its limit, and the pool the uses of the tables.
use Rattle.std.proofs.Common.{◌≡◌, ℕ, ◌+◌, Bool, true, List, [], All, Result, Ok, Err, OnErr, ap, sym, ◌∙◌, arith}
use Rattle.ctrl_model.specs.declared.kinds.Kind.{Kind}
use Rattle.record_tables.specs.Entries.{KeepsOrder}
use Rattle.attr_pool.specs.Slots.{Slot, free_slot}
use Rattle.attr_pool.specs.Uses.{uses_of, has_slots, AreInUse}
use Rattle.attr_pool.proofs.UseLaws.{uses-free}
use Rattle.entity_store.specs.declared.kind_tables.KindTables.{KindTables}
use Rattle.entity_store.specs.AttributeUses.{times, held_times, entity_attributes, has_attribute_room, AreUsed, AreHeld}
use Rattle.entity_store.specs.EntityTables.{Tables, no_entities, is_entity_kind, with_entity, with_attributes, with_router, without_entity}
use Rattle.entity_store.specs.KeptTables.{tables_of, AreWithin, IsKept}
use Rattle.entity_store.specs.TableRules.{may_add, is_there, attributes_at}
use Rattle.entity_store.proofs.RoomLaws.{room_in_pool}
use Rattle.entity_store.proofs.TableUses.{uses-with_entity, uses-with_attributes, uses-without_entity, uses-with_router, within-with_entity, within-with_attributes, within-without_entity, within-with_router}

-- where a fact holds, it holds on an error
pub on_err : {A E : Type 0} (r : Result A E) (P : Type 0) → P → OnErr r P
on_err (Ok a) P p = tt
on_err (Err e) P p = p

pub nothing_kept : (slots : List Slot) → All (λ s. s ≡ free_slot) slots → IsKept no_entities slots
nothing_kept slots free = record {
  within = record { identities = omega arith; services = omega arith; routers = omega arith };
  counted = λ q. uses-free q slots free;
}

-- ---- what the pool tells of the tables

module _ (t : Tables) (slots : List Slot) (kept : IsKept t slots) where
  pub used_in_pool : (names : List (List ℕ)) → AreUsed t names → AreInUse slots names
  used_in_pool names used q = let same = kept.counted q in let few = used q in omega (arith, same, few)

  pub held_in_pool : (names : List (List ℕ)) → AreHeld t names → AreInUse slots names
  held_in_pool names held q = let same = kept.counted q in let few = held q in omega (arith, same, few)

  pub room_by_pool : (gone fresh : List (List ℕ)) → has_slots slots gone fresh ≡ has_attribute_room t gone fresh
  room_by_pool gone fresh = room_in_pool t gone fresh slots gone fresh (λ q. let same = kept.counted q in omega (arith, same))

  -- once what goes is taken out of the pool, there are slots for what comes where there was room for the change
  pub room_after_release : (gone fresh : List (List ℕ)) (left : List Slot) → ((q : List ℕ) → uses_of q left + times q gone ≡ uses_of q slots)
      → has_slots left [] fresh ≡ has_attribute_room t gone fresh
  room_after_release gone fresh left released = room_in_pool t gone fresh left [] fresh (λ q.
      let same = kept.counted q in let less = released q in omega (arith, same, less))

  -- ---- what is kept after a change

  pub kept-added : (k : Kind) (name : List ℕ) (attributes : List (List ℕ)) (new : List Slot) → is_entity_kind k ≡ true → may_add k name t ≡ Ok tt
      → ((q : List ℕ) → uses_of q new ≡ uses_of q slots + times q attributes) → IsKept (with_entity k name attributes t) new
  kept-added k name attributes new e may more = record {
    within = within-with_entity k name attributes t may kept.within;
    counted = λ q. let same = kept.counted q in let come = more q in let all = uses-with_entity k name attributes t e q in omega (arith, same, come, all);
  }

  pub kept-marked : (n cost : ℕ) (through connected : Bool) → IsKept (with_router n cost through connected t) slots
  kept-marked n cost through connected = record {
    within = within-with_router n cost through connected t kept.within;
    counted = λ q. kept.counted q ∙ sym (uses-with_router n cost through connected t q);
  }

  pub kept-changed : KeepsOrder t.identities → KeepsOrder t.services → KeepsOrder t.routers → (k : Kind) (n : ℕ) (had attributes : List (List ℕ)) (left new : List Slot)
      → is_entity_kind k ≡ true → is_there k n t ≡ true → attributes_at k n t ≡ had
      → ((q : List ℕ) → uses_of q left + times q had ≡ uses_of q slots) → ((q : List ℕ) → uses_of q new ≡ uses_of q left + times q attributes)
      → IsKept (with_attributes k n attributes t) new
  kept-changed identities services routers k n had attributes left new e there is less more = record {
    within = within-with_attributes k n attributes t kept.within;
    counted = λ q.
        let same = kept.counted q in let go = less q in let come = more q in let those = ap (times q) is in
        let all = uses-with_attributes t identities services routers k n attributes e there q in
        omega (arith, same, go, come, those, all);
  }

  pub kept-removed : KeepsOrder t.identities → KeepsOrder t.services → KeepsOrder t.routers → (k : Kind) (n : ℕ) (had : List (List ℕ)) (left : List Slot)
      → is_entity_kind k ≡ true → is_there k n t ≡ true → attributes_at k n t ≡ had
      → ((q : List ℕ) → uses_of q left + times q had ≡ uses_of q slots) → IsKept (without_entity k n t) left
  kept-removed identities services routers k n had left e there is less = record {
    within = within-without_entity k n t kept.within;
    counted = λ q.
        let same = kept.counted q in let go = less q in let those = ap (times q) is in
        let all = uses-without_entity t identities services routers k n e there q in
        omega (arith, same, go, those, all);
  }

-- ---- held uses

module _ (kinds : KindTables) (before after : List (List ℕ × ℕ)) (slots new : List Slot) (names : List (List ℕ)) (kept : IsKept (tables_of kinds before) slots) where
  still_within : AreWithin (tables_of kinds after)
  still_within = record { identities = kept.within.identities; services = kept.within.services; routers = kept.within.routers }

  pub kept-held : ((q : List ℕ) → held_times q after ≡ held_times q before + times q names) → ((q : List ℕ) → uses_of q new ≡ uses_of q slots + times q names) → IsKept (tables_of kinds after) new
  kept-held held more = record {
    within = still_within;
    counted = λ q. moved (times q (entity_attributes (tables_of kinds before))) (held_times q before) (held_times q after) (times q names) (uses_of q slots) (uses_of q new) (kept.counted q) (held q) (more q);
  }
    where
      moved : (e b a n s u : ℕ) → s ≡ e + b → a ≡ b + n → u ≡ s + n → u ≡ e + a
      moved e b a n s u x y z = omega (arith, x, y, z)

  pub kept-let_go : ((q : List ℕ) → held_times q after + times q names ≡ held_times q before) → ((q : List ℕ) → uses_of q new + times q names ≡ uses_of q slots) → IsKept (tables_of kinds after) new
  kept-let_go held less = record {
    within = still_within;
    counted = λ q. moved (times q (entity_attributes (tables_of kinds before))) (held_times q before) (held_times q after) (times q names) (uses_of q slots) (uses_of q new) (kept.counted q) (held q) (less q);
  }
    where
      moved : (e b a n s u : ℕ) → s ≡ e + b → a + n ≡ b → u + n ≡ s → u ≡ e + a
      moved e b a n s u x y z = omega (arith, x, y, z)
