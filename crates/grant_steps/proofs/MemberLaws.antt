-- The numbers whose places are marked, where a place is marked as its record passes a test, are the numbers of the records that pass it.
use Rattle.std.proofs.Common.{◌≡◌, ℕ, suc, ◌<◌, Bool, true, false, cond, List, [], ◌∷◌, map, length, get_or, refl, ap, arith}
use Rattle.std.specs.List.{filter, zip}
use Rattle.ctrl_model.specs.Numbered.{numbers}
use Rattle.ctrl_model.specs.State.{Entity}

module _ (test : Entity → Bool) where
  -- the entity at a place, of names and lists of attributes
  abbrev entity_at : List (ℕ × Entity) → ℕ → Entity
  entity_at rows p = record { name = get_or (map (λ row. row.1.name) rows) p []; attributes = get_or (map (λ row. row.1.attributes) rows) p [] }

  pub marks_are : (rows : List (ℕ × Entity)) (marks : List Bool) → length marks ≡ length rows → ((p : ℕ) → p < length marks → get_or marks p false ≡ test (entity_at rows p))
      → marks ≡ map (λ row. test row.1) rows
  marks_are [] [] e told = refl
  marks_are [] (m ∷ marks) e told = absurd (omega (arith, e))
  marks_are (x ∷ rows) [] e told = absurd (omega (arith, e))
  marks_are (x ∷ rows) (m ∷ marks) e told =
      let first = told 0 (omega arith) in
      let rest = marks_are rows marks (omega (arith, e)) (λ p l. told (suc p) (omega (arith, l))) in
      λ i. first i ∷ rest i

  pub marked_members : (rows : List (ℕ × Entity))
      → map (λ (pair : ℕ × Bool). pair.0) (filter (λ pair. pair.1) (zip (numbers rows) (map (λ row. test row.1) rows))) ≡ numbers (filter (λ row. test row.1) rows)
  marked_members [] = refl
  marked_members (x ∷ rows) = by (test x.1) (marked_members rows)
    where
      by : (b : Bool) → map (λ (pair : ℕ × Bool). pair.0) (filter (λ pair. pair.1) (zip (numbers rows) (map (λ row. test row.1) rows))) ≡ numbers (filter (λ row. test row.1) rows)
          → map (λ (pair : ℕ × Bool). pair.0) (cond b ((x.0, b) ∷ filter (λ pair. pair.1) (zip (numbers rows) (map (λ row. test row.1) rows))) (filter (λ pair. pair.1) (zip (numbers rows) (map (λ row. test row.1) rows))))
          ≡ numbers (cond b (x ∷ filter (λ row. test row.1) rows) (filter (λ row. test row.1) rows))
      by true k = ap (λ ns. x.0 ∷ ns) k
      by false k = k
