-- Records of one table that another has too, by their numbers: after one change of it, and once some are gone.
use Rattle.std.proofs.Common.{◌≡◌, ◌≢◌, ℕ, ◌<◌, ◌==◌, Bool, true, false, cond, List, Option, None, Some, refl, sym, ◌∙◌, ap, subst, arith, eqb-true, is_some}
use Rattle.std.proofs.lemmas.Bool.{false≢true}
use Rattle.std.specs.Option.{option_map}
use Rattle.ctrl_model.specs.Numbered.{at, is_present, with_last, edit_at, without, Between}
use Rattle.ctrl_model.proofs.NumberedLaws.{at-within, at-with_last-other, at-edit_at, at-without-other, at-edit_at-back, at-without-back}

-- a record that holds: one stands where it stood, which is to it as it should be
pub record Holds {R : Type 0} (P : R → R → Type 0) (r : R) (o : Option R) : Type 0 where
  pub held : R
  pub there : o ≡ Some held
  pub kept : P r held

-- all records hold but those of some numbers
abbrev pub Held : {R : Type 0} → (R → R → Type 0) → (ℕ → Bool) → List (ℕ × R) → List (ℕ × R) → Type 0
Held {R} P gone xs ys = (n : ℕ) (r : R) → gone n ≡ false → at xs n ≡ Some r → Holds P r (at ys n)

-- a record that stood
pub record Stood {R : Type 0} (P : R → R → Type 0) (xs : List (ℕ × R)) (n : ℕ) (q : R) : Type 0 where
  pub before : R
  pub stood : at xs n ≡ Some before
  pub kept : P before q

-- all records stood
abbrev pub AllStood : {R : Type 0} → (R → R → Type 0) → List (ℕ × R) → List (ℕ × R) → Type 0
AllStood {R} P xs ys = (n : ℕ) (q : R) → at ys n ≡ Some q → Stood P xs n q

-- no number, and one
abbrev pub no_number : ℕ → Bool
no_number _ = false

abbrev pub one_number : ℕ → ℕ → Bool
one_number n m = m == n

module _ {R : Type 0} (P : R → R → Type 0) (same : (r : R) → P r r) (xs : List (ℕ × R)) where
  pub held_same : (gone : ℕ → Bool) → Held P gone xs xs
  held_same gone n r g e = record { held = r; there = e; kept = same r }

  pub held_last : (gone : ℕ → Bool) (next : ℕ) (x : R) → Between 1 next xs → Held P gone xs (with_last xs next x)
  held_last gone next x b n r g e =
      let within = at-within next xs 1 n r b e in
      let below : n < next = within.1 in
      record { held = r; there = at-with_last-other xs next n x (λ s. absurd (omega (arith, below, s))) ∙ e; kept = same r }

  pub held_edit : (gone : ℕ → Bool) (m : ℕ) (f : R → R) → ((r : R) → at xs m ≡ Some r → gone m ≡ false → P r (f r)) → Held P gone xs (edit_at xs m f)
  held_edit gone m f keeps n r g e = record {
    held = cond (n == m) (f r) r;
    there = at-edit_at xs m n f ∙ ap (option_map (λ q. cond (n == m) (f q) q)) e;
    kept = by (n == m) refl;
  }
    where
      by : (b : Bool) → (n == m) ≡ b → P r (cond b (f r) r)
      by true is = let s = eqb-true n m is in keeps r (ap (at xs) (sym s) ∙ e) (ap gone (sym s) ∙ g)
      by false is = same r

  pub held_without : (gone : ℕ → Bool) (m : ℕ) → ((n : ℕ) → gone n ≡ false → n ≢ m) → Held P gone xs (without xs m)
  held_without gone m apart n r g e = record { held = r; there = at-without-other xs m n (apart n g) ∙ e; kept = same r }

  pub stood_same : AllStood P xs xs
  stood_same n q e = record { before = q; stood = e; kept = same q }

  pub stood_edit : (m : ℕ) (f : R → R) → ((r : R) → P r (f r)) → AllStood P xs (edit_at xs m f)
  stood_edit m f keeps n q e =
      let back = at-edit_at-back xs m n f q e in
      record { before = back.0; stood = back.1; kept = subst (P back.0) back.2 (by (n == m)) }
    where
      by : {r : R} (b : Bool) → P r (cond b (f r) r)
      by {r} true = keeps r
      by {r} false = same r

  pub stood_without : (high m : ℕ) → Between 1 high xs → AllStood P xs (without xs m)
  stood_without high m b n q e = let back = at-without-back high xs 1 m n q b e in record { before = q; stood = back.0; kept = same q }

-- what holds is present
pub present_held : {R : Type 0} (P : R → R → Type 0) (gone : ℕ → Bool) (xs ys : List (ℕ × R)) → Held P gone xs ys → (n : ℕ) → gone n ≡ false → is_present xs n ≡ true → is_present ys n ≡ true
present_held {R} P gone xs ys held n g p = by (at xs n) refl p
  where
    by : (o : Option R) → at xs n ≡ o → is_some o ≡ true → is_some (at ys n) ≡ true
    by None e q = absurd (false≢true q)
    by (Some r) e q = ap is_some (held n r g e).there
