-- Where no record stands, no change of records makes one but that which adds one.
use Rattle.std.proofs.Common.{◌≡◌, ℕ, ◌==◌, Bool, true, false, cond, not, List, [], ◌∷◌, None, Some, refl, ◌∙◌, ap}
use Rattle.std.proofs.lemmas.Bool.{cond-false}
use Rattle.std.specs.List.{filter}
use Rattle.std.specs.Option.{option_map}
use Rattle.ctrl_model.specs.Numbered.{at, edit_at, map_each, without}
use Rattle.ctrl_model.proofs.NumberedLaws.{at-edit_at, at-map_each}

pub at-filter-none : {R : Type 0} (p : ℕ × R → Bool) (xs : List (ℕ × R)) (m : ℕ) → at xs m ≡ None → at (filter p xs) m ≡ None
at-filter-none p [] m e = refl
at-filter-none p (x ∷ xs) m e = by (x.0 == m) refl e (at-filter-none p xs m)
  where
    kept : (b : Bool) → (x.0 == m) ≡ false → at (filter p xs) m ≡ None → at (cond b (x ∷ filter p xs) (filter p xs)) m ≡ None
    kept true other h = cond-false (x.0 == m) (Some x.1) (at (filter p xs) m) other ∙ h
    kept false other h = h

    by : (b : Bool) → (x.0 == m) ≡ b → cond b (Some x.1) (at xs m) ≡ None → (at xs m ≡ None → at (filter p xs) m ≡ None) → at (filter p (x ∷ xs)) m ≡ None
    by true is e k = absurd (cc)
    by false is e k = kept (p x) is (k e)

-- no record stands at a number whose record is removed
pub at-without-none : {R : Type 0} (xs : List (ℕ × R)) (n : ℕ) → at (without xs n) n ≡ None
at-without-none [] n = refl
at-without-none (x ∷ xs) n = by (x.0 == n) refl (at-without-none xs n)
  where
    by : (b : Bool) → (x.0 == n) ≡ b → at (without xs n) n ≡ None → at (cond (not b) (x ∷ without xs n) (without xs n)) n ≡ None
    by true is h = h
    by false is h = cond-false (x.0 == n) (Some x.1) (at (without xs n) n) is ∙ h

pub at-edit_at-none : {R : Type 0} (xs : List (ℕ × R)) (n m : ℕ) (f : R → R) → at xs m ≡ None → at (edit_at xs n f) m ≡ None
at-edit_at-none xs n m f e = at-edit_at xs n m f ∙ ap (option_map (λ r. cond (m == n) (f r) r)) e

pub at-map_each-none : {R : Type 0} (f : R → R) (xs : List (ℕ × R)) (m : ℕ) → at xs m ≡ None → at (map_each f xs) m ≡ None
at-map_each-none f xs m e = at-map_each f xs m ∙ ap (option_map f) e
