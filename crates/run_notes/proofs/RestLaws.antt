-- What is left of sessions, one number after the other.
use Rattle.std.specs.Prelude.{Bool, true, false, ◌||◌}
use Rattle.std.proofs.Common.{◌≡◌, ℕ, zero, suc, ◌+◌, ◌≤◌, ◌<◌, List, [], ◌∷◌, ◌++◌, refl, ap, ◌∙◌, append-nil, arith}
use Rattle.std.specs.List.{list_any, flat_map, range_with_len}
use Rattle.std.proofs.lemmas.Grind.{flat_map-append}
use Rattle.std.proofs.lemmas.List.Folds.{list_any-append}

-- One number more.
pub range_more : (a n : ℕ) → range_with_len a (suc n) ≡ range_with_len a n ++ (a + n) ∷ []
range_more a zero = ap (λ (x : ℕ). x ∷ []) (omega arith)
range_more a (suc n) = ap (λ (xs : List ℕ). a ∷ xs) (range_more (a + 1) n ∙ ap (λ (x : ℕ). range_with_len (a + 1) n ++ x ∷ []) (omega arith))

pub lines_more : (f : ℕ → List ℕ) (n : ℕ) → flat_map f (range_with_len 0 (n + 1)) ≡ flat_map f (range_with_len 0 n) ++ f n
lines_more f n =
    let same : 0 + n ≡ n = omega arith in
    let more : n + 1 ≡ suc n = omega arith in
    ap (λ (k : ℕ). flat_map f (range_with_len 0 k)) more
    ∙ ap (flat_map f) (range_more 0 n ∙ ap (λ (k : ℕ). range_with_len 0 n ++ k ∷ []) same)
    ∙ flat_map-append f (range_with_len 0 n) (n ∷ [])
    ∙ ap (λ (l : List ℕ). flat_map f (range_with_len 0 n) ++ l) (append-nil (f n))

or_both : (p q : Bool) → p ≡ false → q ≡ false → (p || (q || false)) ≡ false
or_both true q e h = e
or_both false true e h = h
or_both false false e h = refl

pub any_more : (p : ℕ → Bool) (n : ℕ) → list_any p (range_with_len 0 n) ≡ false → p n ≡ false → list_any p (range_with_len 0 (n + 1)) ≡ false
any_more p n none last =
    let same : 0 + n ≡ n = omega arith in
    let more : n + 1 ≡ suc n = omega arith in
    ap (λ (k : ℕ). list_any p (range_with_len 0 k)) more
    ∙ ap (list_any p) (range_more 0 n ∙ ap (λ (k : ℕ). range_with_len 0 n ++ k ∷ []) same)
    ∙ list_any-append p (range_with_len 0 n) (n ∷ [])
    ∙ or_both (list_any p (range_with_len 0 n)) (p n) none last

-- A number that passes the test.
or_some : (p q : Bool) → p ≡ true → (p || q) ≡ true
or_some true q e = refl
or_some false q e = absurd cc

or_then : (p q : Bool) → q ≡ true → (p || q) ≡ true
or_then true q e = refl
or_then false q e = e

pub any_at : (p : ℕ → Bool) (a n s : ℕ) → s < n → p (a + s) ≡ true → list_any p (range_with_len a n) ≡ true
any_at p a zero s few e = absurd (omega (arith, few))
any_at p a (suc n) zero few e = or_some (p a) _ (ap p (omega arith) ∙ e)
any_at p a (suc n) (suc s) few e = or_then (p a) _ (any_at p (a + 1) n s (omega (arith, few)) (ap p (omega arith) ∙ e))

-- Where none does, and where none has a line.
pub none_any : (p : ℕ → Bool) (a n : ℕ) → ((s : ℕ) → a ≤ s → p s ≡ false) → list_any p (range_with_len a n) ≡ false
none_any p a zero none = refl
none_any p a (suc n) none = ap (λ (b : Bool). b || list_any p (range_with_len (a + 1) n)) (none a (omega arith)) ∙ none_any p (a + 1) n (λ s le. none s (omega (arith, le)))

pub no_lines : (f : ℕ → List ℕ) (a n : ℕ) → ((s : ℕ) → a ≤ s → f s ≡ []) → flat_map f (range_with_len a n) ≡ []
no_lines f a zero none = refl
no_lines f a (suc n) none = ap (λ (l : List ℕ). l ++ flat_map f (range_with_len (a + 1) n)) (none a (omega arith)) ∙ no_lines f (a + 1) n (λ s le. none s (omega (arith, le)))
