-- Laws of the names and rows of a kind's entities: what they are after a change of the entities and of the pool.
use Rattle.std.proofs.Common.{◌≡◌, ◌≢◌, ℕ, zero, suc, ◌+◌, ◌<◌, ◌≤◌, ◌==◌, ◌||◌, Bool, true, false, not, cond, inl, inr, List, [], ◌∷◌, ◌++◌, map, length, get_or, set, refl, sym, ◌∙◌, ap, subst, arith, eq-eqb, ne_eqb}
use Rattle.std.proofs.lemmas.Bool.{cond-true, cond-false}
use Rattle.std.proofs.lemmas.List.{length-map, map-append}
use Rattle.std.specs.List.{AllZip, list_any, remove}
use Rattle.ctrl_model.specs.Membership.{Among}
use Rattle.ctrl_model.specs.Numbered.{numbers, with_last, edit_at, without, Between}
use Rattle.ctrl_model.specs.State.{Entity}
use Rattle.attr_pool.specs.Slots.{Slot, holds, slot_at}
use Rattle.entity_store.specs.KeptRows.{IsRow, AreListed}
use Rattle.entity_store.specs.KeptTables.{IsPlaceOf}
use Rattle.entity_store.specs.ListedRows.{Listed, with_entry, with_words, without_entry}
use Rattle.entity_store.proofs.TimesLaws.{edit_at-below, without-below}

-- ---- places in ascending numbers

module _ {R : Type 0} where
  least_place : (high : ℕ) (rows : List (ℕ × R)) (low p : ℕ) → Between low high rows → p < length (numbers rows) → low ≤ get_or (numbers rows) p 0
  least_place high [] low p b l = absurd (omega (arith, l))
  least_place high (x ∷ rows) low zero b l = b.0
  least_place high (x ∷ rows) low (suc p) b l =
      let least = least_place high rows (x.0 + 1) p b.2 (omega (arith, l)) in let first = b.0 in omega (arith, least, first)

  least_among : (high : ℕ) (rows : List (ℕ × R)) (low : ℕ) (x : ℕ × R) → Between low high rows → Among x rows → low ≤ x.0
  least_among high [] low x b m = absurd m
  least_among high (y ∷ rows) low x b (inl e) = let same = ap (λ (z : ℕ × R). z.0) e in let first = b.0 in omega (arith, same, first)
  least_among high (y ∷ rows) low x b (inr m) =
      let least = least_among high rows (y.0 + 1) x b.2 m in let first = b.0 in omega (arith, least, first)

-- ---- rows in a pool that changes

any_same : (p r : List ℕ → Bool) (names : List (List ℕ)) → ((q : List ℕ) → Among q names → p q ≡ r q) → list_any p names ≡ list_any r names
any_same p r [] h = refl
any_same p r (x ∷ xs) h = λ i. h x (inl refl) i || any_same p r xs (λ q m. h q (inr m)) i

-- some names have the same slots in two pools
abbrev pub Stay : List Slot → List Slot → List (List ℕ) → Type 0
Stay slots new names = (q : List ℕ) → Among q names → (n : ℕ) → holds q (slot_at new n) ≡ holds q (slot_at slots n)

row-moved : (slots new : List Slot) (names : List (List ℕ)) (words : List ℕ) → Stay slots new names → IsRow slots names words → IsRow new names words
row-moved slots new names words stay is = record {
  long = is.long;
  bits = λ n. is.bits n ∙ sym (ap (λ b. cond b 1 0) (any_same (λ name. holds name (slot_at new n)) (λ name. holds name (slot_at slots n)) names (λ q m. stay q m n)));
}

abbrev RowOf : List Slot → ℕ × Entity → List ℕ → Type 0
RowOf slots row words = IsRow slots row.1.attributes words

rows-moved : (slots new : List Slot) (known : List (ℕ × Entity)) (rows : List (List ℕ)) → ((x : ℕ × Entity) → Among x known → Stay slots new x.1.attributes)
    → AllZip (RowOf slots) known rows → AllZip (RowOf new) known rows
rows-moved slots new [] [] stay z = tt
rows-moved slots new [] (r ∷ rows) stay z = absurd z
rows-moved slots new (x ∷ known) [] stay z = absurd z
rows-moved slots new (x ∷ known) (r ∷ rows) stay z =
    (row-moved slots new x.1.attributes r (stay x (inl refl)) z.0, rows-moved slots new known rows (λ y m. stay y (inr m)) z.1)

pub listed-moved : (slots new : List Slot) (known : List (ℕ × Entity)) (l : Listed) → ((x : ℕ × Entity) → Among x known → Stay slots new x.1.attributes)
    → AreListed slots known l → AreListed new known l
listed-moved slots new known l stay are = record { names = are.names; rows = rows-moved slots new known l.rows stay are.rows }

rows-length : (slots : List Slot) (known : List (ℕ × Entity)) (rows : List (List ℕ)) → AllZip (RowOf slots) known rows → length rows ≡ length known
rows-length slots [] [] z = refl
rows-length slots [] (r ∷ rows) z = absurd z
rows-length slots (x ∷ known) [] z = absurd z
rows-length slots (x ∷ known) (r ∷ rows) z = let rest = rows-length slots known rows z.1 in omega (arith, rest)

-- there are as many names and rows as entities
pub listed-length : (slots : List Slot) (known : List (ℕ × Entity)) (l : Listed) → AreListed slots known l → (length l.names ≡ length known) × (length l.rows ≡ length known)
listed-length slots known l are = (ap (λ (ns : List (List ℕ)). length ns) are.names ∙ length-map known (λ (row : ℕ × Entity). row.1.name), rows-length slots known l.rows are.rows)

-- ---- one more entity

rows-pushed : (slots : List Slot) (known : List (ℕ × Entity)) (rows : List (List ℕ)) (x : ℕ × Entity) (first words : List ℕ) (p : ℕ) → p ≡ length known
    → AllZip (RowOf slots) known rows → RowOf slots x words → AllZip (RowOf slots) (known ++ x ∷ []) (set (rows ++ first ∷ []) p words)
rows-pushed slots [] [] x first words zero e z is = (is, tt)
rows-pushed slots [] [] x first words (suc p) e z is = absurd (omega (arith, e))
rows-pushed slots [] (r ∷ rows) x first words p e z is = absurd z
rows-pushed slots (y ∷ known) [] x first words p e z is = absurd z
rows-pushed slots (y ∷ known) (r ∷ rows) x first words zero e z is = absurd (omega (arith, e))
rows-pushed slots (y ∷ known) (r ∷ rows) x first words (suc p) e z is = (z.0, rows-pushed slots known rows x first words p (omega (arith, e)) z.1 is)

pub listed-added : (slots new : List Slot) (known : List (ℕ × Entity)) (l : Listed) (n p : ℕ) (name : List ℕ) (attributes : List (List ℕ)) (words : List ℕ)
    → ((x : ℕ × Entity) → Among x known → Stay slots new x.1.attributes) → p ≡ length known → IsRow new attributes words → AreListed slots known l
    → AreListed new (with_last known n (record { name = name; attributes = attributes })) (with_words p words (with_entry name l))
listed-added slots new known l n p name attributes words stay place is are = record {
  names = ap (λ ns. ns ++ name ∷ []) are.names ∙ sym (map-append (λ (row : ℕ × Entity). row.1.name) known ((n, record { name = name; attributes = attributes }) ∷ []));
  rows = rows-pushed new known l.rows (n, record { name = name; attributes = attributes }) _ words p place (rows-moved slots new known l.rows stay are.rows) is;
}

-- ---- another list of attributes, and one entity less

module _ (slots new : List Slot) (n high : ℕ) where
  -- entities of other numbers keep the slots of their attributes
  abbrev pub OthersStay : List (ℕ × Entity) → Type 0
  OthersStay known = (x : ℕ × Entity) → Among x known → x.0 ≢ n → Stay slots new x.1.attributes

  above : (known : List (ℕ × Entity)) (low : ℕ) → Between low high known → n < low → OthersStay known → (x : ℕ × Entity) → Among x known → Stay slots new x.1.attributes
  above known low b l stay x m = stay x m (λ e. let least = least_among high known low x b m in absurd (omega (arith, least, e, l)))

  module _ (attributes : List (List ℕ)) (words : List ℕ) (is : IsRow new attributes words) where
    abbrev changed : Entity → Entity
    changed e = record e { attributes = attributes }

    rows-changed : (known : List (ℕ × Entity)) (rows : List (List ℕ)) (low p : ℕ) → Between low high known → IsPlaceOf n (numbers known) p → OthersStay known
        → AllZip (RowOf slots) known rows → AllZip (RowOf new) (edit_at known n changed) (set rows p words)
    rows-changed [] rows low p b place stay z = absurd (let less = place.0 in omega (arith, less))
    rows-changed (x ∷ known) [] low p b place stay z = absurd z
    rows-changed (x ∷ known) (r ∷ rows) low zero b place stay z =
        let tail : AllZip (RowOf new) known rows = rows-moved slots new known rows (above known (x.0 + 1) b.2 (let same = place.1 in omega (arith, same)) (λ y m. stay y (inr m))) z.1 in (
          subst (λ (e : Entity). IsRow new e.attributes words) (sym (cond-true (x.0 == n) (changed x.1) x.1 (eq-eqb x.0 n place.1))) is,
          subst (λ (ys : List (ℕ × Entity)). AllZip (RowOf new) ys rows) (sym (edit_at-below high known (x.0 + 1) n changed b.2 (let same = place.1 in omega (arith, same)))) tail,
        )
    rows-changed (x ∷ known) (r ∷ rows) low (suc p) b place stay z =
        let least = least_place high known (x.0 + 1) p b.2 (let less = place.0 in omega (arith, less)) in
        let other : x.0 ≢ n = λ e. let same = place.1 in absurd (omega (arith, least, same, e)) in (
          subst (λ (e : Entity). IsRow new e.attributes r) (sym (cond-false (x.0 == n) (changed x.1) x.1 (ne_eqb x.0 n other))) (row-moved slots new x.1.attributes r (stay x (inl refl) other) z.0),
          rows-changed known rows (x.0 + 1) p b.2 (let less = place.0 in omega (arith, less), place.1) (λ y m. stay y (inr m)) z.1,
        )

    names-changed : (known : List (ℕ × Entity)) → map (λ row. row.1.name) known ≡ map (λ row. row.1.name) (edit_at known n changed)
    names-changed [] = refl
    names-changed (x ∷ known) = by (x.0 == n) (names-changed known)
      where
        by : (b : Bool) → map (λ (row : ℕ × Entity). row.1.name) known ≡ map (λ row. row.1.name) (edit_at known n changed)
            → map (λ (row : ℕ × Entity). row.1.name) (x ∷ known) ≡ (cond b (changed x.1) x.1).name ∷ map (λ row. row.1.name) (edit_at known n changed)
        by true k = ap (λ ns. x.1.name ∷ ns) k
        by false k = ap (λ ns. x.1.name ∷ ns) k

    pub listed-changed : (known : List (ℕ × Entity)) (l : Listed) (low p : ℕ) → Between low high known → IsPlaceOf n (numbers known) p → OthersStay known
        → AreListed slots known l → AreListed new (edit_at known n changed) (with_words p words l)
    listed-changed known l low p b place stay are = record {
      names = are.names ∙ names-changed known;
      rows = rows-changed known l.rows low p b place stay are.rows;
    }

  rows-removed : (known : List (ℕ × Entity)) (rows : List (List ℕ)) (low p : ℕ) → Between low high known → IsPlaceOf n (numbers known) p → OthersStay known
      → AllZip (RowOf slots) known rows → AllZip (RowOf new) (without known n) (remove rows p)
  rows-removed [] rows low p b place stay z = absurd (let less = place.0 in omega (arith, less))
  rows-removed (x ∷ known) [] low p b place stay z = absurd z
  rows-removed (x ∷ known) (r ∷ rows) low zero b place stay z =
      let same = place.1 in
      let tail : AllZip (RowOf new) known rows = rows-moved slots new known rows (above known (x.0 + 1) b.2 (omega (arith, same)) (λ y m. stay y (inr m))) z.1 in
      subst (λ (ys : List (ℕ × Entity)). AllZip (RowOf new) ys rows)
      (sym (cond-false (not (x.0 == n)) (x ∷ without known n) (without known n) (ap not (eq-eqb x.0 n same)) ∙ without-below high known (x.0 + 1) n b.2 (omega (arith, same)))) tail
  rows-removed (x ∷ known) (r ∷ rows) low (suc p) b place stay z =
      let least = least_place high known (x.0 + 1) p b.2 (let less = place.0 in omega (arith, less)) in
      let other : x.0 ≢ n = λ e. let same = place.1 in absurd (omega (arith, least, same, e)) in
      subst (λ (ys : List (ℕ × Entity)). AllZip (RowOf new) ys (r ∷ remove rows p))
      (sym (cond-true (not (x.0 == n)) (x ∷ without known n) (without known n) (ap not (ne_eqb x.0 n other)))) (
        row-moved slots new x.1.attributes r (stay x (inl refl) other) z.0,
        rows-removed known rows (x.0 + 1) p b.2 (let less = place.0 in omega (arith, less), place.1) (λ y m. stay y (inr m)) z.1,
      )

  names-removed : (known : List (ℕ × Entity)) (low p : ℕ) → Between low high known → IsPlaceOf n (numbers known) p
      → remove (map (λ row. row.1.name) known) p ≡ map (λ row. row.1.name) (without known n)
  names-removed [] low p b place = absurd (let less = place.0 in omega (arith, less))
  names-removed (x ∷ known) low zero b place =
      let same = place.1 in
      ap (λ (ys : List (ℕ × Entity)). map (λ row. row.1.name) ys)
      (sym (cond-false (not (x.0 == n)) (x ∷ without known n) (without known n) (ap not (eq-eqb x.0 n same)) ∙ without-below high known (x.0 + 1) n b.2 (omega (arith, same))))
  names-removed (x ∷ known) low (suc p) b place =
      let least = least_place high known (x.0 + 1) p b.2 (let less = place.0 in omega (arith, less)) in
      let other : x.0 ≢ n = λ e. let same = place.1 in absurd (omega (arith, least, same, e)) in
      ap (λ ns. x.1.name ∷ ns) (names-removed known (x.0 + 1) p b.2 (let less = place.0 in omega (arith, less), place.1))
      ∙ ap (λ (ys : List (ℕ × Entity)). map (λ row. row.1.name) ys) (sym (cond-true (not (x.0 == n)) (x ∷ without known n) (without known n) (ap not (ne_eqb x.0 n other))))

  pub listed-removed : (known : List (ℕ × Entity)) (l : Listed) (low p : ℕ) → Between low high known → IsPlaceOf n (numbers known) p → OthersStay known
      → AreListed slots known l → AreListed new (without known n) (without_entry p l)
  listed-removed known l low p b place stay are = record {
    names = ap (λ ns. remove ns p) are.names ∙ names-removed known low p b place;
    rows = rows-removed known l.rows low p b place stay are.rows;
  }
