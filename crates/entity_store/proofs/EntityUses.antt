-- Laws for callers of the store: the attributes of a present entity are in use, and present it is.
use Rattle.std.proofs.Common.{◌≡◌, ℕ, ◌+◌, ◌≤◌, ◌==◌, Bool, true, false, cond, List, [], ◌∷◌, ◌++◌, map, Some, refl, sym, ◌∙◌, ap, arith}
use Rattle.std.proofs.lemmas.Option.{same_Some, none-some}
use Rattle.std.specs.List.{flat_map}
use Rattle.std.specs.Option.{is_some}
use Rattle.ctrl_model.specs.declared.kinds.Kind.{Kind}
use Rattle.ctrl_model.specs.declared.kinds.Kind.TheVariants as kind
use Rattle.ctrl_model.specs.Numbered.{at}
use Rattle.ctrl_model.specs.State.{Entity, Router, as_entity}
use Rattle.entity_store.specs.EntityTables.{Tables, entities}
use Rattle.entity_store.specs.AttributeUses.{times, held_times, entity_attributes, AreUsed}
use Rattle.entity_store.specs.TableRules.{attributes_at, is_there}
use Rattle.entity_store.proofs.UseLaws.{times-append}

attributes-entities : (rows : List (ℕ × Router))
    → flat_map (λ (row : ℕ × Entity). row.1.attributes) (map (λ (row : ℕ × Router). (row.0, as_entity row.1)) rows) ≡ flat_map (λ (row : ℕ × Router). row.1.attributes) rows
attributes-entities [] = refl
attributes-entities (x ∷ rows) = ap (λ ns. x.1.attributes ++ ns) (attributes-entities rows)

within : (q : List ℕ) (rows : List (ℕ × Entity)) (n : ℕ) (e : Entity) → at rows n ≡ Some e
    → times q e.attributes ≤ times q (flat_map (λ (row : ℕ × Entity). row.1.attributes) rows)
within q [] n e h = absurd (none-some e h)
within q (x ∷ rows) n e h = by (x.0 == n) h (within q rows n e)
  where
    all : times q (x.1.attributes ++ flat_map (λ (row : ℕ × Entity). row.1.attributes) rows) ≡ times q x.1.attributes + times q (flat_map (λ (row : ℕ × Entity). row.1.attributes) rows)
    all = times-append q x.1.attributes (flat_map (λ (row : ℕ × Entity). row.1.attributes) rows)

    by : (b : Bool) → cond b (Some x.1) (at rows n) ≡ Some e → (at rows n ≡ Some e → times q e.attributes ≤ times q (flat_map (λ (row : ℕ × Entity). row.1.attributes) rows))
        → times q e.attributes ≤ times q (x.1.attributes ++ flat_map (λ (row : ℕ × Entity). row.1.attributes) rows)
    by true g k = let same = ap (λ (r : Entity). times q r.attributes) (same_Some x.1 e g) in omega (arith, all, same)
    by false g k = let later = k g in omega (arith, all, later)

-- the attributes of an entity that a look-up tells are in use
pub used_at : (k : Kind) (t : Tables) (n : ℕ) (e : Entity) → Some e ≡ at (entities k t) n → AreUsed t e.attributes
used_at k t n e h q = by k h
  where
    first : List (List ℕ)
    first = flat_map (λ (row : ℕ × Entity). row.1.attributes) t.identities.rows

    second : List (List ℕ)
    second = flat_map (λ (row : ℕ × Entity). row.1.attributes) t.services.rows

    third : List (List ℕ)
    third = flat_map (λ (row : ℕ × Router). row.1.attributes) t.routers.rows

    all : times q (entity_attributes t) ≡ times q first + (times q second + times q third)
    all = times-append q first (second ++ third) ∙ ap (λ m. times q first + m) (times-append q second third)

    by : (k : Kind) → Some e ≡ at (entities k t) n → times q e.attributes ≤ times q (entity_attributes t) + held_times q t.held
    by kind.Identity g = let part = within q t.identities.rows n e (sym g) in omega (arith, all, part)
    by kind.Service g = let part = within q t.services.rows n e (sym g) in omega (arith, all, part)
    by kind.Router g =
        let part = within q (map (λ (row : ℕ × Router). (row.0, as_entity row.1)) t.routers.rows) n e (sym g) in
        let same = ap (times q) (attributes-entities t.routers.rows) in
        omega (arith, all, part, same)
    by _ g = absurd (none-some e (sym g))

-- it has these attributes, and is there
pub attributes_of_seen : (k : Kind) (t : Tables) (n : ℕ) (e : Entity) → Some e ≡ at (entities k t) n → attributes_at k n t ≡ e.attributes
attributes_of_seen k t n e h = rw (← h) refl

pub there_from_seen : (k : Kind) (t : Tables) (n : ℕ) (e : Entity) → Some e ≡ at (entities k t) n → is_there k n t ≡ true
there_from_seen k t n e h = ap is_some (sym h)
