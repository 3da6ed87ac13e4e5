-- The rows of a kind's entities, one behind the other, are the rows of their attributes.
use Rattle.std.proofs.Common.{◌≡◌, ℕ, zero, suc, ◌+◌, ◌-◌, ◌*◌, ◌<◌, List, [], ◌∷◌, ◌++◌, map, length, take, drop, get_or, refl, sym, ◌∙◌, ap, subst, arith}
use Rattle.std.proofs.lemmas.List.{length-append, length-map, take_at}
use Rattle.std.proofs.Math.Seq.{drop-append-add}
use Rattle.std.specs.List.{AllZip, flat_map}
use Rattle.bit_lanes.specs.Lanes.{bit_of, bit_row}
use Rattle.ctrl_model.specs.declared.kinds.Kind.{Kind}
use Rattle.ctrl_model.specs.Membership.{Among}
use Rattle.ctrl_model.specs.State.{Entity}
use Rattle.ctrl_model.proofs.Members.{Among-get_or, by_map}
use Rattle.attr_pool.specs.AttributeRows.{row_words, AreRows}
use Rattle.attr_pool.specs.Slots.{Slot, slot_of, row_bit}
use Rattle.attr_pool.proofs.UseLaws.{used_number}
use Rattle.entity_store.specs.EntityTables.{Tables, entities}
use Rattle.entity_store.specs.KeptRows.{IsRow, AreListed}
use Rattle.entity_store.specs.KeptTables.{IsKept}
use Rattle.entity_store.specs.ListedRows.{Listed}
use Rattle.entity_store.proofs.AllListedLaws.{in_pool}

abbrev attribute_lists : List (ℕ × Entity) → List (List (List ℕ))
attribute_lists known = map (λ row. row.1.attributes) known

abbrev behind : List (List ℕ) → List ℕ
behind rows = flat_map (λ words. words) rows

module _ (slots : List Slot) where
  abbrev RowsOf : List (ℕ × Entity) → List (List ℕ) → Type 0
  RowsOf known rows = AllZip (λ (row : ℕ × Entity) words. IsRow slots row.1.attributes words) known rows

  words-length : (known : List (ℕ × Entity)) (rows : List (List ℕ)) → RowsOf known rows → length (behind rows) ≡ row_words * length known
  words-length [] [] z = refl
  words-length [] (r ∷ rows) z = absurd z
  words-length (x ∷ known) [] z = absurd z
  words-length (x ∷ known) (r ∷ rows) z =
      let first = z.0.long in let rest = words-length known rows z.1 in let whole = length-append r (behind rows) in
      omega (arith, first, rest, whole)

  row-first : (r rest : List ℕ) → length r ≡ row_words → bit_row (r ++ rest) row_words 0 ≡ r
  row-first r rest long = take_at r rest row_words long

  row-later : (r rest : List ℕ) (p : ℕ) → length r ≡ row_words → bit_row (r ++ rest) row_words (suc p) ≡ bit_row rest row_words p
  row-later r rest p long =
      let past : suc p * row_words ≡ length r + p * row_words = omega (arith, long) in
      let few : (suc p * row_words + row_words) - suc p * row_words ≡ (p * row_words + row_words) - p * row_words = omega arith in
      (λ i. take (few i) (drop (past i) (r ++ rest))) ∙ ap (take ((p * row_words + row_words) - p * row_words)) (drop-append-add r rest (p * row_words))

  bits-at : (known : List (ℕ × Entity)) (rows : List (List ℕ)) → RowsOf known rows → (p : ℕ) → p < length known → (n : ℕ)
      → bit_of (bit_row (behind rows) row_words p) n ≡ row_bit slots (get_or (attribute_lists known) p []) n
  bits-at [] rows z p l n = absurd (omega (arith, l))
  bits-at (x ∷ known) [] z p l n = absurd z
  bits-at (x ∷ known) (r ∷ rows) z zero l n = ap (λ words. bit_of words n) (row-first r (behind rows) z.0.long) ∙ z.0.bits n
  bits-at (x ∷ known) (r ∷ rows) z (suc p) l n =
      ap (λ words. bit_of words n) (row-later r (behind rows) p z.0.long) ∙ bits-at known rows z.1 p (omega (arith, l)) n

pub are_rows : (k : Kind) (t : Tables) (slots : List Slot) (l : Listed) → IsKept t slots → AreListed slots (entities k t) l → AreRows slots (attribute_lists (entities k t)) (behind l.rows)
are_rows k t slots l kept are = record {
  held = λ p within name among. by_map (λ (row : ℕ × Entity). row.1.attributes) (entities k t) (get_or (attribute_lists (entities k t)) p []) (Among-get_or (attribute_lists (entities k t)) p [] within)
      (λ x m e. used_number name slots (slot_of name slots) (in_pool k t slots kept x m name (subst (λ ns. Among name ns) (sym e) among)) refl);
  long = words-length slots (entities k t) l.rows are.rows ∙ ap (λ n. row_words * n) (sym (length-map (entities k t) (λ (row : ℕ × Entity). row.1.attributes)));
  bits = λ p within n. bits-at slots (entities k t) l.rows are.rows p (let same = length-map (entities k t) (λ (row : ℕ × Entity). row.1.attributes) in omega (arith, same, within)) n;
}
