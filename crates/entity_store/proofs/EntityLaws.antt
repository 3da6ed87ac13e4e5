-- Laws of the entities of a kind.
use Rattle.std.proofs.Common.{◌≡◌, ℕ, ◌≤◌, ◌==◌, cond, List, [], ◌∷◌, map, length, Option, None, Some, Ok, refl, ◌∙◌, ap}
use Rattle.std.proofs.lemmas.List.{length-map}
use Rattle.std.specs.Option.{is_some, option_map}
use Rattle.ctrl_model.specs.declared.kinds.Kind.{Kind}
use Rattle.ctrl_model.specs.declared.kinds.Kind.TheVariants as kind
use Rattle.ctrl_model.specs.Numbered.{at, is_present, numbers, edit_at}
use Rattle.ctrl_model.specs.State.{Entity, Router, as_entity}
use Rattle.ctrl_model.proofs.NumberedLaws.{at-map, Between-map}
use Rattle.record_tables.specs.Entries.{KeepsOrder}
use Rattle.entity_store.specs.EntityTables.{Tables, number_of}
use Rattle.entity_store.specs.TableRules.{may_add, KeepsNumbers}

-- a name under which an entity may be added is free
pub free_name : (k : Kind) (name : List ℕ) (t : Tables) → may_add k name t ≡ Ok tt → number_of k name t ≡ None
free_name k name t e = by (number_of k name t) refl
  where
    by : (o : Option ℕ) → number_of k name t ≡ o → o ≡ None
    by None is = refl
    by (Some n) is = let taken = rw is at e in cc

-- ---- routers as entities

pub router-at : (rows : List (ℕ × Router)) (n : ℕ) → at (map (λ row. (row.0, as_entity row.1)) rows) n ≡ option_map as_entity (at rows n)
router-at rows n = at-map (λ x. as_entity x.1) rows n

pub router-present : (rows : List (ℕ × Router)) (n : ℕ) → is_present (map (λ row. (row.0, as_entity row.1)) rows) n ≡ is_present rows n
router-present rows n = ap is_some (router-at rows n) ∙ by (at rows n)
  where
    by : (o : Option Router) → is_some (option_map as_entity o) ≡ is_some o
    by None = refl
    by (Some r) = refl

pub router-numbers : (rows : List (ℕ × Router)) → numbers (map (λ row. (row.0, as_entity row.1)) rows) ≡ numbers rows
router-numbers [] = refl
router-numbers (x ∷ rows) = ap (λ ns. x.0 ∷ ns) (router-numbers rows)

pub routers_keep : (t : Tables) → KeepsOrder t.routers → length t.routers.rows ≤ 256 → KeepsNumbers kind.Router t
routers_keep t order few = record {
  first = order.first;
  last = order.last;
  ordered = Between-map (λ x. as_entity x.1) t.routers.next t.routers.rows 1 order.ordered;
  few = rw (length-map {B = ℕ × Entity} t.routers.rows (λ (x : ℕ × Router). (x.0, as_entity x.1))) few;
}

-- ---- how many records there are after a change

pub edited_length : {R : Type 0} (rows : List (ℕ × R)) (n : ℕ) (f : R → R) → length (edit_at rows n f) ≡ length rows
edited_length rows n f = length-map rows (λ x. (x.0, cond (x.0 == n) (f x.1) x.1))
