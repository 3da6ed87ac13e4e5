-- The lanes of a vector that is computed lane by lane, and what its mask tells.
use Rattle.std.proofs.Common.{◌≡◌, ◌≢◌, ℕ, zero, suc, ◌+◌, ◌-◌, ◌%◌, ◌^◌, ◌<◌, ◌≤◌, Bool, true, false, cond, not, nat_eq, List, [], ◌∷◌, length, get_or, map, replicate, refl, sym, ap, ap₂, ◌∙◌, arith, eqb-true}
use Rattle.std.specs.Bool.{OnTrue, OnFalse}
use Rattle.std.proofs.lemmas.Bool.{OnTrue_from, OnFalse_from, eqb-false}
use Rattle.bit_lanes.specs.Words.{Lanes}
use Rattle.std.specs.Simd.Lanes.{zip2, sel_l, mask_l, top}
use Rattle.std.proofs.lemmas.List.{length-map, get_or-map}
use Rattle.std.proofs.lemmas.Simd.{get_or-zip2, length-zip2, get_or-sel_l, length-sel_l, mask_l-mod, length-replicate, get_or-replicate}

pub zipped : {A B C : Type 0} (h : A → B → C) (a : A) (b : B) (c : C) (n : ℕ) (xs : List A) (ys : List B) (f : ℕ → A) (g : ℕ → B)
    → Lanes a n xs f → Lanes b n ys g → Lanes c n (zip2 h xs ys) (λ i. h (f i) (g i))
zipped h a b c n xs ys f g x y = record {
  long = length-zip2 h xs ys (x.long ∙ sym y.long) ∙ x.long;
  each = λ i p.
      let l = x.long in let m = y.long in
      get_or-zip2 h xs ys i a b c (omega arith) (omega arith) ∙ ap₂ h (x.each i p) (y.each i p);
}

pub mapped : {A B : Type 0} (h : A → B) (a : A) (b : B) (n : ℕ) (xs : List A) (f : ℕ → A) → Lanes a n xs f
    → Lanes b n (map h xs) (λ i. h (f i))
mapped h a b n xs f x = record {
  long = length-map xs h ∙ x.long;
  each = λ i p. let l = x.long in get_or-map h xs i a b (omega arith) ∙ ap h (x.each i p);
}

pub selected : (n : ℕ) (ms : List Bool) (xs ys : List ℕ) (m : ℕ → Bool) (f g : ℕ → ℕ) → Lanes false n ms m → Lanes 0 n xs f → Lanes 0 n ys g
    → Lanes 0 n (sel_l ms xs ys) (λ i. cond (m i) (f i) (g i))
selected n ms xs ys m f g s x y = record {
  long = length-sel_l ms xs ys (s.long ∙ sym x.long) (s.long ∙ sym y.long) ∙ s.long;
  each = λ i p.
      let j = s.long in let k = x.long in let l = y.long in
      get_or-sel_l ms xs ys i 0 (omega arith) (omega arith) (omega arith)
      ∙ (ap (λ b. cond b (get_or xs i 0) (get_or ys i 0)) (s.each i p) ∙ ap₂ (cond (m i)) (x.each i p) (y.each i p));
}

-- a mask of 0 has no lane set, and another has one
clear_lanes : (ms : List Bool) → mask_l ms ≡ 0 → (i : ℕ) → get_or ms i false ≡ false
clear_lanes [] h i = refl
clear_lanes (true ∷ ms) h i = absurd (omega arith)
clear_lanes (false ∷ ms) h zero = refl
clear_lanes (false ∷ ms) h (suc i) = clear_lanes ms (omega arith) i

set_lane : (ms : List Bool) → mask_l ms ≢ 0 → (i : ℕ) × (i < length ms) × (get_or ms i false ≡ true)
set_lane [] h = absurd (h refl)
set_lane (true ∷ ms) h = (0, omega arith, refl)
set_lane (false ∷ ms) h =
    let less : mask_l ms ≢ 0 = λ z. h (omega arith) in
    let r = set_lane ms less in (suc r.0, omega (arith, r.1), r.2)

-- eight lanes that are set where a place fails tell of the eight places
all_pass : (test : ℕ → Bool) (place : ℕ) (ms : List Bool) → Lanes false 8 ms (λ i. not (test (place + i)))
    → nat_eq (mask_l ms % 2 ^ 64) 0 ≡ true → (n : ℕ) → place ≤ n → n < place + 8 → test n ≡ true
all_pass test place ms lanes clear n low high =
    let long = lanes.long in
    let whole : mask_l ms ≡ 0 = sym (mask_l-mod ms 64 (omega arith)) ∙ eqb-true _ _ clear in
    let at : place + (n - place) ≡ n = omega arith in
    not_false (test n) (ap (λ m. not (test m)) (sym at) ∙ (sym (lanes.each (n - place) (omega arith)) ∙ clear_lanes ms whole (n - place)))
  where
    not_false : (b : Bool) → not b ≡ false → b ≡ true
    not_false true e = refl
    not_false false e = absurd (cc)

some_fails : (test : ℕ → Bool) (place : ℕ) (ms : List Bool) → Lanes false 8 ms (λ i. not (test (place + i)))
    → nat_eq (mask_l ms % 2 ^ 64) 0 ≡ false → (n : ℕ) × (n < place + 8) × (test n ≡ false)
some_fails test place ms lanes set =
    let long = lanes.long in
    let same = mask_l-mod ms 64 (omega arith) in
    let some : mask_l ms ≢ 0 = λ z. eqb-false _ _ set (same ∙ z) in
    let r = set_lane ms some in
    let small : r.0 < 8 = omega (arith, r.1) in
    (place + r.0, omega arith, not_true (test (place + r.0)) (sym (lanes.each r.0 small) ∙ r.2))
  where
    not_true : (b : Bool) → not b ≡ true → b ≡ false
    not_true true e = absurd (cc)
    not_true false e = refl

pub mask_tells : (test : ℕ → Bool) (place : ℕ) (ms : List Bool) → Lanes false 8 ms (λ i. not (test (place + i)))
    → record {
      all : OnTrue (nat_eq (mask_l ms % 2 ^ 64) 0) ((n : ℕ) → place ≤ n → n < place + 8 → test n ≡ true);
      some : OnFalse (nat_eq (mask_l ms % 2 ^ 64) 0) ((n : ℕ) × (n < place + 8) × (test n ≡ false));
    }
mask_tells test place ms lanes = record {
  all = OnTrue_from _ _ (all_pass test place ms lanes);
  some = OnFalse_from _ _ (some_fails test place ms lanes);
}

pub splatted : (n y : ℕ) → Lanes 0 n (replicate n y) (λ i. y)
splatted n y = record { long = length-replicate n y; each = λ i p. get_or-replicate n i y 0 p }

pub same_lanes : {A : Type 0} (d : A) (n : ℕ) (xs : List A) (f g : ℕ → A) → Lanes d n xs f → ((i : ℕ) → i < n → f i ≡ g i) → Lanes d n xs g
same_lanes d n xs f g x e = record { long = x.long; each = λ i p. x.each i p ∙ e i p }

-- a lane of a comparison is set where it holds
pub compared : (b : Bool) → top 63 (cond b (2 ^ 64 - 1) 0) ≡ b
compared true = refl
compared false = refl
