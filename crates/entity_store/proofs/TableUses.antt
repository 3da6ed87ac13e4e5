-- What a change of the tables makes of their uses of names, and of how many records they have.
use Rattle.std.proofs.Common.{◌≡◌, ℕ, ◌+◌, ◌≤◌, ◌==◌, nat_lt, Bool, true, false, cond, List, [], ◌∷◌, ◌++◌, length, Option, None, Some, Result, Ok, Err, refl, sym, ◌∙◌, ap, arith, ltb-true}
use Rattle.std.proofs.lemmas.Bool.{and_parts, false≢true}
use Rattle.std.proofs.lemmas.List.{length-append, length-map}
use Rattle.std.specs.Bool.{⊤}
use Rattle.std.specs.List.{flat_map}
use Rattle.std.specs.Option.{is_some, option_map, option_map_or}
use Rattle.ctrl_model.specs.declared.kinds.Kind.{Kind}
use Rattle.ctrl_model.specs.declared.kinds.Kind.TheVariants as kind
use Rattle.ctrl_model.specs.Numbered.{at, is_present, with_last, edit_at, without}
use Rattle.ctrl_model.specs.State.{Entity, Router, as_entity}
use Rattle.ctrl_model.proofs.NumberedLaws.{length-filter-le}
use Rattle.record_tables.specs.Entries.{KeepsOrder}
use Rattle.attr_pool.proofs.UseLaws.{times-append}
use Rattle.entity_store.specs.declared.entities.EntityFault.{EntityFault}
use Rattle.entity_store.specs.declared.entities.EntityFault.TheVariants.{Exists, Full}
use Rattle.entity_store.specs.AttributeUses.{times, held_times, uses}
use Rattle.entity_store.specs.EntityTables.{Tables, is_entity_kind, number_of, new_router, with_entity, with_attributes, with_router, without_entity}
use Rattle.entity_store.specs.KeptTables.{AreWithin}
use Rattle.entity_store.specs.TableRules.{has_kind_room, may_add, is_there, attributes_at}
use Rattle.entity_store.proofs.EntityLaws.{router-at, router-present, edited_length}
use Rattle.entity_store.proofs.TimesLaws.{times-with_last, times-edit_at, times-without}

-- ---- the uses of a name

-- the uses by the entities of each kind, and those held
parts : (x : List ℕ) (t : Tables) → uses x t ≡ times x (flat_map (λ (row : ℕ × Entity). row.1.attributes) t.identities.rows)
    + (times x (flat_map (λ (row : ℕ × Entity). row.1.attributes) t.services.rows) + times x (flat_map (λ (row : ℕ × Router). row.1.attributes) t.routers.rows)) + held_times x t.held
parts x t =
    let first = times-append x (flat_map (λ (row : ℕ × Entity). row.1.attributes) t.identities.rows) (flat_map (λ (row : ℕ × Entity). row.1.attributes) t.services.rows ++ flat_map (λ (row : ℕ × Router). row.1.attributes) t.routers.rows) in
    let second = times-append x (flat_map (λ (row : ℕ × Entity). row.1.attributes) t.services.rows) (flat_map (λ (row : ℕ × Router). row.1.attributes) t.routers.rows) in
    omega (arith, first, second)

pub uses-with_entity : (k : Kind) (name : List ℕ) (attributes : List (List ℕ)) (t : Tables) → is_entity_kind k ≡ true
    → (x : List ℕ) → uses x (with_entity k name attributes t) ≡ uses x t + times x attributes
uses-with_entity kind.Identity name attributes t e x =
    let old = parts x t in let new = parts x (with_entity kind.Identity name attributes t) in
    let more = times-with_last (λ (r : Entity). r.attributes) x t.identities.rows t.identities.next (record { name = name; attributes = attributes }) in
    omega (arith, old, new, more)
uses-with_entity kind.Service name attributes t e x =
    let old = parts x t in let new = parts x (with_entity kind.Service name attributes t) in
    let more = times-with_last (λ (r : Entity). r.attributes) x t.services.rows t.services.next (record { name = name; attributes = attributes }) in
    omega (arith, old, new, more)
uses-with_entity kind.Router name attributes t e x =
    let old = parts x t in let new = parts x (with_entity kind.Router name attributes t) in
    let more = times-with_last (λ (r : Router). r.attributes) x t.routers.rows t.routers.next (new_router name attributes) in
    omega (arith, old, new, more)
uses-with_entity _ name attributes t e x = absurd (false≢true e)

by_there : {R P : Type 0} (rows : List (ℕ × R)) (n : ℕ) → is_present rows n ≡ true → ((r : R) → at rows n ≡ Some r → P) → P
by_there {R} {P} rows n e k = by (at rows n) refl e
  where
    by : (o : Option R) → at rows n ≡ o → is_some o ≡ true → P
    by None is f = absurd (false≢true f)
    by (Some r) is f = k r is

-- the attributes of a present router
had_by_router : (t : Tables) (n : ℕ) (r : Router) → at t.routers.rows n ≡ Some r → attributes_at kind.Router n t ≡ r.attributes
had_by_router t n r is =
    ap (λ o. option_map_or (λ (e : Entity). e.attributes) o []) (router-at t.routers.rows n ∙ ap (option_map as_entity) is)

had_by_entity : (rows : List (ℕ × Entity)) (n : ℕ) (r : Entity) → at rows n ≡ Some r → option_map_or (λ (e : Entity). e.attributes) (at rows n) [] ≡ r.attributes
had_by_entity rows n r is = ap (λ o. option_map_or (λ (e : Entity). e.attributes) o []) is

module _ (t : Tables) (identities : KeepsOrder t.identities) (services : KeepsOrder t.services) (routers : KeepsOrder t.routers) where
  pub uses-with_attributes : (k : Kind) (n : ℕ) (attributes : List (List ℕ)) → is_entity_kind k ≡ true → is_there k n t ≡ true
      → (x : List ℕ) → uses x (with_attributes k n attributes t) + times x (attributes_at k n t) ≡ uses x t + times x attributes
  uses-with_attributes kind.Identity n attributes e there x = by_there t.identities.rows n there (λ r is.
      let old = parts x t in let new = parts x (with_attributes kind.Identity n attributes t) in
      let moved = times-edit_at (λ (r : Entity). r.attributes) (λ e. record e { attributes = attributes }) x t.identities.next t.identities.rows 1 n r identities.ordered is in
      let had = ap (times x) (had_by_entity t.identities.rows n r is) in
      omega (arith, old, new, moved, had))
  uses-with_attributes kind.Service n attributes e there x = by_there t.services.rows n there (λ r is.
      let old = parts x t in let new = parts x (with_attributes kind.Service n attributes t) in
      let moved = times-edit_at (λ (r : Entity). r.attributes) (λ e. record e { attributes = attributes }) x t.services.next t.services.rows 1 n r services.ordered is in
      let had = ap (times x) (had_by_entity t.services.rows n r is) in
      omega (arith, old, new, moved, had))
  uses-with_attributes kind.Router n attributes e there x = by_there t.routers.rows n (sym (router-present t.routers.rows n) ∙ there) (λ r is.
      let old = parts x t in let new = parts x (with_attributes kind.Router n attributes t) in
      let moved = times-edit_at (λ (r : Router). r.attributes) (λ e. record e { attributes = attributes }) x t.routers.next t.routers.rows 1 n r routers.ordered is in
      let had = ap (times x) (had_by_router t n r is) in
      omega (arith, old, new, moved, had))
  uses-with_attributes _ n attributes e there x = absurd (false≢true e)

  pub uses-without_entity : (k : Kind) (n : ℕ) → is_entity_kind k ≡ true → is_there k n t ≡ true
      → (x : List ℕ) → uses x (without_entity k n t) + times x (attributes_at k n t) ≡ uses x t
  uses-without_entity kind.Identity n e there x = by_there t.identities.rows n there (λ r is.
      let old = parts x t in let new = parts x (without_entity kind.Identity n t) in
      let moved = times-without (λ (r : Entity). r.attributes) x t.identities.next t.identities.rows 1 n r identities.ordered is in
      let had = ap (times x) (had_by_entity t.identities.rows n r is) in
      omega (arith, old, new, moved, had))
  uses-without_entity kind.Service n e there x = by_there t.services.rows n there (λ r is.
      let old = parts x t in let new = parts x (without_entity kind.Service n t) in
      let moved = times-without (λ (r : Entity). r.attributes) x t.services.next t.services.rows 1 n r services.ordered is in
      let had = ap (times x) (had_by_entity t.services.rows n r is) in
      omega (arith, old, new, moved, had))
  uses-without_entity kind.Router n e there x = by_there t.routers.rows n (sym (router-present t.routers.rows n) ∙ there) (λ r is.
      let old = parts x t in let new = parts x (without_entity kind.Router n t) in
      let moved = times-without (λ (r : Router). r.attributes) x t.routers.next t.routers.rows 1 n r routers.ordered is in
      let had = ap (times x) (had_by_router t n r is) in
      omega (arith, old, new, moved, had))
  uses-without_entity _ n e there x = absurd (false≢true e)

-- a change that keeps the attributes of a record keeps those of all
edited_attributes : {R : Type 0} (f : R → List (List ℕ)) (g : R → R) → ((r : R) → f (g r) ≡ f r) → (rows : List (ℕ × R)) (n : ℕ)
    → flat_map (λ row. f row.1) (edit_at rows n g) ≡ flat_map (λ row. f row.1) rows
edited_attributes f g same [] n = refl
edited_attributes f g same (y ∷ ys) n = λ j. head (y.0 == n) j ++ edited_attributes f g same ys n j
  where
    head : (b : Bool) → f (cond b (g y.1) y.1) ≡ f y.1
    head true = same y.1
    head false = refl

pub uses-with_router : (n cost : ℕ) (through connected : Bool) (t : Tables) (x : List ℕ) → uses x (with_router n cost through connected t) ≡ uses x t
uses-with_router n cost through connected t x =
    let old = parts x t in let new = parts x (with_router n cost through connected t) in
    let same = ap (times x) (edited_attributes (λ (r : Router). r.attributes) (λ r. record r { cost = cost; through = through; connected = connected }) (λ r. refl) t.routers.rows n) in
    omega (arith, old, new, same)

-- ---- how many records there are

kind_room : (k : Kind) (name : List ℕ) (t : Tables) → may_add k name t ≡ Ok tt → has_kind_room k t ≡ true
kind_room k name t e = by (is_some (number_of k name t)) (has_kind_room k t) e
  where
    by : (taken room : Bool) → ◌≡◌ {A = Result ⊤ EntityFault} (cond taken (Err Exists) (cond room (Ok tt) (Err (Full k)))) (Ok tt) → room ≡ true
    by true room f = absurd (cc)
    by false true f = refl
    by false false f = absurd (cc)

longer : {R : Type 0} (rows : List (ℕ × R)) (n : ℕ) (r : R) (most : ℕ) → nat_lt (length rows) most ≡ true → length (with_last rows n r) ≤ most
longer rows n r most e =
    let one = length-append rows ((n, r) ∷ []) in let less = ltb-true (length rows) most e in omega (arith, one, less)

pub within-with_entity : (k : Kind) (name : List ℕ) (attributes : List (List ℕ)) (t : Tables) → may_add k name t ≡ Ok tt → AreWithin t → AreWithin (with_entity k name attributes t)
within-with_entity kind.Identity name attributes t may w = record {
  identities = longer t.identities.rows t.identities.next _ 2048 (and_parts _ _ (kind_room kind.Identity name t may)).0;
  services = w.services;
  routers = w.routers;
}
within-with_entity kind.Service name attributes t may w = record {
  identities = w.identities;
  services = longer t.services.rows t.services.next _ 512 (and_parts _ _ (kind_room kind.Service name t may)).0;
  routers = w.routers;
}
within-with_entity kind.Router name attributes t may w = record {
  identities = w.identities;
  services = w.services;
  routers = longer t.routers.rows t.routers.next _ 256 (ap (λ n. nat_lt n 256) (sym (length-map {B = ℕ × Entity} t.routers.rows (λ (x : ℕ × Router). (x.0, as_entity x.1)))) ∙ (and_parts _ _ (kind_room kind.Router name t may)).0);
}
within-with_entity _ name attributes t may w = w

pub within-with_attributes : (k : Kind) (n : ℕ) (attributes : List (List ℕ)) (t : Tables) → AreWithin t → AreWithin (with_attributes k n attributes t)
within-with_attributes kind.Identity n attributes t w = record {
  identities = rw (edited_length t.identities.rows n (λ e. record e { attributes = attributes })) w.identities;
  services = w.services;
  routers = w.routers;
}
within-with_attributes kind.Service n attributes t w = record {
  identities = w.identities;
  services = rw (edited_length t.services.rows n (λ e. record e { attributes = attributes })) w.services;
  routers = w.routers;
}
within-with_attributes kind.Router n attributes t w = record {
  identities = w.identities;
  services = w.services;
  routers = rw (edited_length t.routers.rows n (λ e. record e { attributes = attributes })) w.routers;
}
within-with_attributes _ n attributes t w = w

pub within-with_router : (n cost : ℕ) (through connected : Bool) (t : Tables) → AreWithin t → AreWithin (with_router n cost through connected t)
within-with_router n cost through connected t w = record {
  identities = w.identities;
  services = w.services;
  routers = rw (edited_length t.routers.rows n (λ r. record r { cost = cost; through = through; connected = connected })) w.routers;
}

fewer_rows : {R : Type 0} (rows : List (ℕ × R)) (n most : ℕ) → length rows ≤ most → length (without rows n) ≤ most
fewer_rows rows n most few = let fewer : length (without rows n) ≤ length rows = length-filter-le _ _ in omega (arith, fewer, few)

pub within-without_entity : (k : Kind) (n : ℕ) (t : Tables) → AreWithin t → AreWithin (without_entity k n t)
within-without_entity kind.Identity n t w = record { identities = fewer_rows t.identities.rows n 2048 w.identities; services = w.services; routers = w.routers }
within-without_entity kind.Service n t w = record { identities = w.identities; services = fewer_rows t.services.rows n 512 w.services; routers = w.routers }
within-without_entity kind.Router n t w = record { identities = w.identities; services = w.services; routers = fewer_rows t.routers.rows n 256 w.routers }
within-without_entity _ n t w = w
