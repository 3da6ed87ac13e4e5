-- Laws of the names and rows of all kinds: what they are after each change of the tables, of the pool and of themselves.
use Rattle.std.proofs.Common.{◌≡◌, ◌≢◌, ℕ, ◌+◌, ◌<◌, ◌==◌, Bool, true, false, not, cond, List, [], ◌∷◌, ◌++◌, map, length, replicate, refl, sym, ◌∙◌, ap, subst, arith, ne_eqb}
use Rattle.std.proofs.lemmas.Bool.{false≢true}
use Rattle.std.proofs.lemmas.List.{length-append, length-map, map-append}
use Rattle.std.specs.List.{flat_map}
use Rattle.ctrl_model.specs.declared.kinds.Kind.{Kind}
use Rattle.ctrl_model.specs.declared.kinds.Kind.TheVariants as kind
use Rattle.ctrl_model.specs.Membership.{Among}
use Rattle.ctrl_model.specs.Numbered.{numbers, edit_at, without, Between}
use Rattle.ctrl_model.specs.State.{Entity, Router, as_entity}
use Rattle.ctrl_model.proofs.Members.{Among-append_left, Among-append_right, Among-flat_map, Among-filter, by_map}
use Rattle.ctrl_model.proofs.NumberedLaws.{Between-map}
use Rattle.record_tables.specs.Entries.{KeepsOrder}
use Rattle.attr_pool.specs.AttributeRows.{row_words}
use Rattle.attr_pool.specs.Slots.{Slot}
use Rattle.attr_pool.specs.Uses.{uses_of, KeepsSlots}
use Rattle.attr_pool.proofs.UseLaws.{times-from_among}
use Rattle.entity_store.specs.declared.kind_rows.AllRows.{AllRows}
use Rattle.entity_store.specs.declared.kind_tables.KindTables.{KindTables}
use Rattle.entity_store.specs.AttributeUses.{times, uses, entity_attributes}
use Rattle.entity_store.specs.EntityTables.{Tables, no_entities, is_entity_kind, entities, new_router, with_entity, with_attributes, with_router, without_entity}
use Rattle.entity_store.specs.KeptRows.{IsRow, AreListed, AreAllListed}
use Rattle.entity_store.specs.KeptTables.{tables_of, IsKept, IsPlaceOf}
use Rattle.entity_store.specs.ListedKinds.{listed_of, on_kind}
use Rattle.entity_store.specs.ListedRows.{Listed, no_entries, with_entry, with_words, without_entry}
use Rattle.entity_store.proofs.ListedLaws.{Stay, listed-length, listed-moved, listed-added, listed-changed, listed-removed}

-- ---- attributes of entities are in use

used_among : (k : Kind) (t : Tables) (x : ℕ × Entity) → Among x (entities k t) → (q : List ℕ) → Among q x.1.attributes → 0 < uses q t
used_among k t x m q a = let some = times-from_among q (entity_attributes t) (by k m) in omega (arith, some)
  where
    first : List (List ℕ)
    first = flat_map (λ (row : ℕ × Entity). row.1.attributes) t.identities.rows

    second : List (List ℕ)
    second = flat_map (λ (row : ℕ × Entity). row.1.attributes) t.services.rows

    third : List (List ℕ)
    third = flat_map (λ (row : ℕ × Router). row.1.attributes) t.routers.rows

    by : (k : Kind) → Among x (entities k t) → Among q (first ++ (second ++ third))
    by kind.Identity m = Among-append_left first (second ++ third) q (Among-flat_map (λ (row : ℕ × Entity). row.1.attributes) t.identities.rows x q m a)
    by kind.Service m = Among-append_right first (second ++ third) q (Among-append_left second third q (Among-flat_map (λ (row : ℕ × Entity). row.1.attributes) t.services.rows x q m a))
    by kind.Router m = Among-append_right first (second ++ third) q (Among-append_right second third q
        (by_map (λ (row : ℕ × Router). (row.0, as_entity row.1)) t.routers.rows x m (λ y n e.
        Among-flat_map (λ (row : ℕ × Router). row.1.attributes) t.routers.rows y q n (subst (λ (z : ℕ × Entity). Among q z.1.attributes) (sym e) a))))
    by _ m = absurd m

pub in_pool : (k : Kind) (t : Tables) (slots : List Slot) → IsKept t slots → (x : ℕ × Entity) → Among x (entities k t) → (q : List ℕ) → Among q x.1.attributes → 0 < uses_of q slots
in_pool k t slots kept x m q a = let some = used_among k t x m q a in let same = kept.counted q in omega (arith, some, same)

-- ---- routers as entities, after a change

routers-edited : (f : Router → Router) (g : Entity → Entity) (n : ℕ) (rows : List (ℕ × Router)) → ((r : Router) → as_entity (f r) ≡ g (as_entity r))
    → map (λ (row : ℕ × Router). (row.0, as_entity row.1)) (edit_at rows n f) ≡ edit_at (map (λ (row : ℕ × Router). (row.0, as_entity row.1)) rows) n g
routers-edited f g n [] h = refl
routers-edited f g n (x ∷ rows) h = let rest = routers-edited f g n rows h in λ i. (x.0, by (x.0 == n) i) ∷ rest i
  where
    by : (b : Bool) → as_entity (cond b (f x.1) x.1) ≡ cond b (g (as_entity x.1)) (as_entity x.1)
    by true = h x.1
    by false = refl

routers-marked : (f : Router → Router) (n : ℕ) (rows : List (ℕ × Router)) → ((r : Router) → as_entity (f r) ≡ as_entity r)
    → map {B = ℕ × Entity} (λ (row : ℕ × Router). (row.0, as_entity row.1)) (edit_at rows n f) ≡ map (λ (row : ℕ × Router). (row.0, as_entity row.1)) rows
routers-marked f n [] h = refl
routers-marked f n (x ∷ rows) h = let rest = routers-marked f n rows h in λ i. (x.0, by (x.0 == n) i) ∷ rest i
  where
    by : (b : Bool) → as_entity (cond b (f x.1) x.1) ≡ as_entity x.1
    by true = h x.1
    by false = refl

routers-without : (n : ℕ) (rows : List (ℕ × Router)) → map (λ (row : ℕ × Router). (row.0, as_entity row.1)) (without rows n) ≡ without (map (λ (row : ℕ × Router). (row.0, as_entity row.1)) rows) n
routers-without n [] = refl
routers-without n (x ∷ rows) = by (x.0 == n) (routers-without n rows)
  where
    by : (b : Bool) → map (λ (row : ℕ × Router). (row.0, as_entity row.1)) (without rows n) ≡ without (map (λ (row : ℕ × Router). (row.0, as_entity row.1)) rows) n
        → map (λ (row : ℕ × Router). (row.0, as_entity row.1)) (cond (not b) (x ∷ without rows n) (without rows n))
        ≡ cond (not b) ((x.0, as_entity x.1) ∷ without (map (λ (row : ℕ × Router). (row.0, as_entity row.1)) rows) n) (without (map (λ (row : ℕ × Router). (row.0, as_entity row.1)) rows) n)
    by true k = k
    by false k = ap (λ (ys : List (ℕ × Entity)). (x.0, as_entity x.1) ∷ ys) k

left_there : (known : List (ℕ × Entity)) (n : ℕ) (x : ℕ × Entity) → Among x known → x.0 ≢ n → Among x (without known n)
left_there known n x m other = Among-filter (λ (y : ℕ × Entity). not (y.0 == n)) known x m (ap not (ne_eqb x.0 n other))

-- ---- all kinds

module _ (slots new : List Slot) (t : Tables) (all : AllRows) (are : AreAllListed slots t all) where
  -- the attributes of all entities keep their slots
  abbrev pub AllStay : Type 0
  AllStay = (k : Kind) (x : ℕ × Entity) → Among x (entities k t) → Stay slots new x.1.attributes

  pub all-moved : AllStay → AreAllListed new t all
  all-moved stay = record {
    identities = listed-moved slots new (entities kind.Identity t) all.identities (stay kind.Identity) are.identities;
    services = listed-moved slots new (entities kind.Service t) all.services (stay kind.Service) are.services;
    routers = listed-moved slots new (entities kind.Router t) all.routers (stay kind.Router) are.routers;
  }

  pub all-added : (k : Kind) (p : ℕ) (name : List ℕ) (attributes : List (List ℕ)) (words : List ℕ) → is_entity_kind k ≡ true → AllStay → p ≡ length (entities k t) → IsRow new attributes words
      → AreAllListed new (with_entity k name attributes t) (on_kind k (with_words p words) (on_kind k (with_entry name) all))
  all-added kind.Identity p name attributes words e stay place is = record {
    identities = listed-added slots new t.identities.rows all.identities t.identities.next p name attributes words (stay kind.Identity) place is are.identities;
    services = listed-moved slots new (entities kind.Service t) all.services (stay kind.Service) are.services;
    routers = listed-moved slots new (entities kind.Router t) all.routers (stay kind.Router) are.routers;
  }
  all-added kind.Service p name attributes words e stay place is = record {
    identities = listed-moved slots new (entities kind.Identity t) all.identities (stay kind.Identity) are.identities;
    services = listed-added slots new t.services.rows all.services t.services.next p name attributes words (stay kind.Service) place is are.services;
    routers = listed-moved slots new (entities kind.Router t) all.routers (stay kind.Router) are.routers;
  }
  all-added kind.Router p name attributes words e stay place is = record {
    identities = listed-moved slots new (entities kind.Identity t) all.identities (stay kind.Identity) are.identities;
    services = listed-moved slots new (entities kind.Service t) all.services (stay kind.Service) are.services;
    routers = subst (λ (known : List (ℕ × Entity)). AreListed new known (with_words p words (with_entry name all.routers)))
        (sym (map-append (λ (row : ℕ × Router). (row.0, as_entity row.1)) t.routers.rows ((t.routers.next, new_router name attributes) ∷ [])))
        (listed-added slots new (entities kind.Router t) all.routers t.routers.next p name attributes words (stay kind.Router) place is are.routers);
  }
  all-added _ p name attributes words e stay place is = absurd (false≢true e)

  module _ (identities : KeepsOrder t.identities) (services : KeepsOrder t.services) (routers : KeepsOrder t.routers) (k : Kind) (n p : ℕ) (e : is_entity_kind k ≡ true) (place : IsPlaceOf n (numbers (entities k t)) p)
      (stay : (j : Kind) (x : ℕ × Entity) → Among x (entities j t) → Among x (entities j (without_entity k n t)) → Stay slots new x.1.attributes) where
    ordered_routers : Between 1 t.routers.next (entities kind.Router t)
    ordered_routers = Between-map (λ (x : ℕ × Router). as_entity x.1) t.routers.next t.routers.rows 1 routers.ordered

    pub all-changed : (attributes : List (List ℕ)) (words : List ℕ) → IsRow new attributes words → AreAllListed new (with_attributes k n attributes t) (on_kind k (with_words p words) all)
    all-changed attributes words is = by k place stay e
      where
        by : (k : Kind) → IsPlaceOf n (numbers (entities k t)) p → ((j : Kind) (x : ℕ × Entity) → Among x (entities j t) → Among x (entities j (without_entity k n t)) → Stay slots new x.1.attributes) → is_entity_kind k ≡ true
            → AreAllListed new (with_attributes k n attributes t) (on_kind k (with_words p words) all)
        by kind.Identity place stay e = record {
          identities = listed-changed slots new n t.identities.next attributes words is t.identities.rows all.identities 1 p identities.ordered place (λ x m other. stay kind.Identity x m (left_there t.identities.rows n x m other)) are.identities;
          services = listed-moved slots new (entities kind.Service t) all.services (λ x m. stay kind.Service x m m) are.services;
          routers = listed-moved slots new (entities kind.Router t) all.routers (λ x m. stay kind.Router x m m) are.routers;
        }
        by kind.Service place stay e = record {
          identities = listed-moved slots new (entities kind.Identity t) all.identities (λ x m. stay kind.Identity x m m) are.identities;
          services = listed-changed slots new n t.services.next attributes words is t.services.rows all.services 1 p services.ordered place (λ x m other. stay kind.Service x m (left_there t.services.rows n x m other)) are.services;
          routers = listed-moved slots new (entities kind.Router t) all.routers (λ x m. stay kind.Router x m m) are.routers;
        }
        by kind.Router place stay e = record {
          identities = listed-moved slots new (entities kind.Identity t) all.identities (λ x m. stay kind.Identity x m m) are.identities;
          services = listed-moved slots new (entities kind.Service t) all.services (λ x m. stay kind.Service x m m) are.services;
          routers = subst (λ (known : List (ℕ × Entity)). AreListed new known (with_words p words all.routers))
              (sym (routers-edited (λ r. record r { attributes = attributes }) (λ (x : Entity). record x { attributes = attributes }) n t.routers.rows (λ r. refl)))
              (listed-changed slots new n t.routers.next attributes words is (entities kind.Router t) all.routers 1 p ordered_routers place
              (λ x m other. stay kind.Router x m (subst (λ (known : List (ℕ × Entity)). Among x known) (sym (routers-without n t.routers.rows)) (left_there (entities kind.Router t) n x m other))) are.routers);
        }
        by _ place stay e = absurd (false≢true e)

    pub all-removed : AreAllListed new (without_entity k n t) (on_kind k (without_entry p) all)
    all-removed = by k place stay e
      where
        by : (k : Kind) → IsPlaceOf n (numbers (entities k t)) p → ((j : Kind) (x : ℕ × Entity) → Among x (entities j t) → Among x (entities j (without_entity k n t)) → Stay slots new x.1.attributes) → is_entity_kind k ≡ true
            → AreAllListed new (without_entity k n t) (on_kind k (without_entry p) all)
        by kind.Identity place stay e = record {
          identities = listed-removed slots new n t.identities.next t.identities.rows all.identities 1 p identities.ordered place (λ x m other. stay kind.Identity x m (left_there t.identities.rows n x m other)) are.identities;
          services = listed-moved slots new (entities kind.Service t) all.services (λ x m. stay kind.Service x m m) are.services;
          routers = listed-moved slots new (entities kind.Router t) all.routers (λ x m. stay kind.Router x m m) are.routers;
        }
        by kind.Service place stay e = record {
          identities = listed-moved slots new (entities kind.Identity t) all.identities (λ x m. stay kind.Identity x m m) are.identities;
          services = listed-removed slots new n t.services.next t.services.rows all.services 1 p services.ordered place (λ x m other. stay kind.Service x m (left_there t.services.rows n x m other)) are.services;
          routers = listed-moved slots new (entities kind.Router t) all.routers (λ x m. stay kind.Router x m m) are.routers;
        }
        by kind.Router place stay e = record {
          identities = listed-moved slots new (entities kind.Identity t) all.identities (λ x m. stay kind.Identity x m m) are.identities;
          services = listed-moved slots new (entities kind.Service t) all.services (λ x m. stay kind.Service x m m) are.services;
          routers = subst (λ (known : List (ℕ × Entity)). AreListed new known (without_entry p all.routers)) (sym (routers-without n t.routers.rows))
              (listed-removed slots new n t.routers.next (entities kind.Router t) all.routers 1 p ordered_routers place
              (λ x m other. stay kind.Router x m (subst (λ (known : List (ℕ × Entity)). Among x known) (sym (routers-without n t.routers.rows)) (left_there (entities kind.Router t) n x m other))) are.routers);
        }
        by _ place stay e = absurd (false≢true e)

pub all-marked : (slots : List Slot) (t : Tables) (all : AllRows) (n cost : ℕ) (through connected : Bool) → AreAllListed slots t all → AreAllListed slots (with_router n cost through connected t) all
all-marked slots t all n cost through connected are = record {
  identities = are.identities;
  services = are.services;
  routers = subst (λ (known : List (ℕ × Entity)). AreListed slots known all.routers)
      (sym (routers-marked (λ r. record r { cost = cost; through = through; connected = connected }) n t.routers.rows (λ r. refl))) are.routers;
}

pub all-held : (slots : List Slot) (kinds : KindTables) (before after : List (List ℕ × ℕ)) (all : AllRows) → AreAllListed slots (tables_of kinds before) all → AreAllListed slots (tables_of kinds after) all
all-held slots kinds before after all are = record { identities = are.identities; services = are.services; routers = are.routers }

-- ---- where slots stay

module _ (t : Tables) (slots : List Slot) (kept : IsKept t slots) where
  -- as uses come
  pub stay-more : (new : List Slot) (names : List (List ℕ)) → KeepsSlots slots new → ((q : List ℕ) → uses_of q new ≡ uses_of q slots + times q names)
      → (k : Kind) (x : ℕ × Entity) → Among x (entities k t) → Stay slots new x.1.attributes
  stay-more new names keeps more k x m q a n =
      let some = in_pool k t slots kept x m q a in let come = more q in
      keeps q some (omega (arith, some, come)) n

  -- as uses go of others
  pub stay-left : (after : Tables) (left : List Slot) → KeepsSlots slots left → IsKept after left
      → (k : Kind) (x : ℕ × Entity) → Among x (entities k t) → Among x (entities k after) → Stay slots left x.1.attributes
  stay-left after left keeps rest k x m there q a n = keeps q (in_pool k t slots kept x m q a) (in_pool k after left rest x there q a) n

  -- and others come
  pub stay-changed : (after : Tables) (left new : List Slot) (names : List (List ℕ)) → KeepsSlots slots left → IsKept after left → KeepsSlots left new → ((q : List ℕ) → uses_of q new ≡ uses_of q left + times q names)
      → (k : Kind) (x : ℕ × Entity) → Among x (entities k t) → Among x (entities k after) → Stay slots new x.1.attributes
  stay-changed after left new names keeps rest later more k x m there q a n =
      let some = in_pool k after left rest x there q a in let come = more q in
      later q some (omega (arith, some, come)) n ∙ stay-left after left keeps rest k x m there q a n

-- held uses go
pub all-let_go : (slots left : List Slot) (kinds : KindTables) (before after : List (List ℕ × ℕ)) (all : AllRows) → IsKept (tables_of kinds before) slots → IsKept (tables_of kinds after) left → KeepsSlots slots left
    → AreAllListed slots (tables_of kinds before) all → AreAllListed left (tables_of kinds after) all
all-let_go slots left kinds before after all kept rest keeps are =
    all-held left kinds before after all (all-moved slots left (tables_of kinds before) all are (λ k x m. stay-left (tables_of kinds before) slots kept (tables_of kinds after) left keeps rest k x m (still k x m)))
  where
    still : (k : Kind) (x : ℕ × Entity) → Among x (entities k (tables_of kinds before)) → Among x (entities k (tables_of kinds after))
    still kind.Identity x m = m
    still kind.Service x m = m
    still kind.Router x m = m
    still _ x m = absurd m

-- ---- of one kind

pub listed_in : (slots : List Slot) (t : Tables) (all : AllRows) (k : Kind) → is_entity_kind k ≡ true → AreAllListed slots t all → AreListed slots (entities k t) (listed_of k all)
listed_in slots t all kind.Identity e are = are.identities
listed_in slots t all kind.Service e are = are.services
listed_in slots t all kind.Router e are = are.routers
listed_in slots t all _ e are = absurd (false≢true e)

on_one : (k : Kind) (f : Listed → Listed) (all : AllRows) → is_entity_kind k ≡ true → listed_of k (on_kind k f all) ≡ f (listed_of k all)
on_one kind.Identity f all e = refl
on_one kind.Service f all e = refl
on_one kind.Router f all e = refl
on_one _ f all e = absurd (false≢true e)

module _ (slots : List Slot) (t : Tables) (all : AllRows) (k : Kind) (e : is_entity_kind k ≡ true) (are : AreAllListed slots t all) where
  -- the place behind the last one is that of a pushed name
  pub last_place : (name : List ℕ) → length (entities k t) < length (listed_of k (on_kind k (with_entry name) all)).rows
  last_place name =
      let same = listed-length slots (entities k t) (listed_of k all) (listed_in slots t all k e are) in
      let more = length-append (listed_of k all).rows (replicate row_words 0 ∷ []) in
      let pushed = ap (λ (l : Listed). length l.rows) (on_one k (with_entry name) all e) in
      let rows = same.1 in
      omega (arith, rows, more, pushed)

  pub place_listed : (n p : ℕ) → IsPlaceOf n (numbers (entities k t)) p → (p < length (listed_of k all).names) × (p < length (listed_of k all).rows)
  place_listed n p place =
      let same = listed-length slots (entities k t) (listed_of k all) (listed_in slots t all k e are) in
      let names = same.0 in let rows = same.1 in let within = place.0 in let whole = length-map (entities k t) (λ (x : ℕ × Entity). x.0) in
      (omega (arith, names, within, whole), omega (arith, rows, within, whole))

pub nothing_listed : (slots : List Slot) → AreAllListed slots no_entities (record { identities = no_entries; services = no_entries; routers = no_entries })
nothing_listed slots = record {
  identities = record { names = refl; rows = tt };
  services = record { names = refl; rows = tt };
  routers = record { names = refl; rows = tt };
}
