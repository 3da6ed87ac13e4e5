-- The place of a record in the order of the numbers.
use Rattle.std.proofs.Common.{◌≡◌, ℕ, zero, suc, ◌+◌, ◌<◌, ◌==◌, Bool, true, false, not, cond, List, [], ◌∷◌, length, get_or, None, Some, IsSome, refl, ◌∙◌, ap, arith, position, eqb-true}
use Rattle.std.proofs.lemmas.Bool.{lt-ltb, false≢true}
use Rattle.std.proofs.lemmas.List.{length-map}
use Rattle.std.proofs.lemmas.List.Quantifiers.{position-Some}
use Rattle.std.specs.List.{prefix_len}
use Rattle.std.specs.Option.{is_some}
use Rattle.ctrl_model.specs.Numbered.{at, is_present, numbers}
use Rattle.entity_store.specs.KeptTables.{IsPlaceOf}

module _ {R : Type 0} where
  first_within : (rows : List (ℕ × R)) (n : ℕ) → is_present rows n ≡ true → prefix_len (λ row. not (row.0 == n)) rows < length rows
  first_within [] n there = absurd (false≢true there)
  first_within (x ∷ rows) n there = by (x.0 == n) there (first_within rows n)
    where
      by : (b : Bool) → is_some (cond b (Some x.1) (at rows n)) ≡ true → (is_present rows n ≡ true → prefix_len (λ row. not (row.0 == n)) rows < length rows)
          → cond (not b) (1 + prefix_len (λ row. not (row.0 == n)) rows) 0 < length (x ∷ rows)
      by true s k = omega arith
      by false s k = let rest = k s in omega (arith, rest)

  -- a present record has a place
  pub some_place_of : (rows : List (ℕ × R)) (n : ℕ) → is_present rows n ≡ true → IsSome (position (λ row. row.0 == n) rows)
  some_place_of rows n there =
      let less = first_within rows n there in
      ap (λ b. is_some (cond b (Some (prefix_len (λ row. not (row.0 == n)) rows)) None)) (lt-ltb (prefix_len (λ row. not (row.0 == n)) rows) (length rows) less)

  number-at : (rows : List (ℕ × R)) (p : ℕ) (d : ℕ × R) → p < length rows → get_or (numbers rows) p 0 ≡ (get_or rows p d).0
  number-at [] p d l = absurd (omega (arith, l))
  number-at (x ∷ rows) zero d l = refl
  number-at (x ∷ rows) (suc p) d l = number-at rows p d (omega (arith, l))

  pub place_found : (rows : List (ℕ × R)) (n p : ℕ) → position (λ row. row.0 == n) rows ≡ Some p → IsPlaceOf n (numbers rows) p
  place_found [] n p e = absurd (cc)
  place_found (x ∷ rows) n p e =
      let first = position-Some (λ row. row.0 == n) (x ∷ rows) p x e in
      (rw (length-map (x ∷ rows) (λ (row : ℕ × R). row.0)) first.0, number-at (x ∷ rows) p x first.0 ∙ eqb-true (get_or (x ∷ rows) p x).0 n first.1)
