-- Laws on numbered maps: what stands at a number after each change, that the numbers stay in order, and what a search by a
-- test finds. The laws named `..-back` tell from what stands after a change what stood before it.
use Rattle.std.proofs.Common.{◌≡◌, ◌≢◌, ℕ, ◌+◌, ◌<◌, ◌≤◌, ◌==◌, Bool, true, false, cond, not, ◌||◌, ◌⊎◌, inl, inr, List, [], ◌∷◌, map, length, is_some, Option, None, Some, refl, sym, ◌∙◌, ap, arith, eqb-true, eq-eqb, ne_eqb, length-append, suc, nat_lt, ltb-true, ltb-false}
use Rattle.std.proofs.lemmas.Bool.{cases_eq, cond-true, cond-false, false≢true, not-true, both_ways}
use Rattle.std.proofs.lemmas.Bool.Decides.{nat_tests}
use Rattle.std.proofs.lemmas.Option.{same_Some, none-some}
use Rattle.std.specs.Option.{option_map}
use Rattle.std.specs.List.{filter}
use Rattle.ctrl_model.specs.Numbered.{at, is_present, numbers, with_last, with_at, edit_at, without, map_each, first_where, Between}
use Rattle.ctrl_model.specs.Walks.{is_among}

-- ---- what stands at a number

pub at-below : {R : Type 0} (high : ℕ) (xs : List (ℕ × R)) (low m : ℕ) → Between low high xs → m < low → at xs m ≡ None
at-below high [] low m b h = refl
at-below high (x ∷ xs) low m b h = grind (arith, nat_tests, at-below high xs (x.0 + 1) m b.2)

pub at-past : {R : Type 0} (high : ℕ) (xs : List (ℕ × R)) (low m : ℕ) → Between low high xs → high ≤ m → at xs m ≡ None
at-past high [] low m b h = refl
at-past high (x ∷ xs) low m b h = grind (arith, nat_tests, at-past high xs (x.0 + 1) m b.2)

-- a number at which a record stands is in the range
pub at-within : {R : Type 0} (high : ℕ) (xs : List (ℕ × R)) (low m : ℕ) (r : R) → Between low high xs → at xs m ≡ Some r → (low ≤ m) × (m < high)
at-within high [] low m r b e = absurd (none-some r e)
at-within high (x ∷ xs) low m r b e = grind (arith, nat_tests, at-within high xs (x.0 + 1) m r b.2)

pub at-with_last : {R : Type 0} (xs : List (ℕ × R)) (n m : ℕ) (r : R) → at xs n ≡ None → at (with_last xs n r) m ≡ cond (n == m) (Some r) (at xs m)
at-with_last [] n m r e = refl
at-with_last (x ∷ xs) n m r e = grind (arith, nat_tests, at-with_last xs n m r)

-- records that are changed by a function of the number and the record
pub at-map : {R S : Type 0} (g : ℕ × R → S) (xs : List (ℕ × R)) (m : ℕ) → at (map (λ x. (x.0, g x)) xs) m ≡ option_map (λ r. g (m, r)) (at xs m)
at-map g [] m = refl
at-map g (x ∷ xs) m = head (x.0 == m) refl (at-map g xs m)
  where
    head : (b : Bool) → (x.0 == m) ≡ b → at (map (λ x. (x.0, g x)) xs) m ≡ option_map (λ r. g (m, r)) (at xs m)
        → cond b (Some (g x)) (at (map (λ x. (x.0, g x)) xs) m) ≡ option_map (λ r. g (m, r)) (cond b (Some x.1) (at xs m))
    head true is e = ap (λ k. Some (g (k, x.1))) (eqb-true x.0 m is)
    head false is e = e

pub at-edit_at : {R : Type 0} (xs : List (ℕ × R)) (n m : ℕ) (f : R → R) → at (edit_at xs n f) m ≡ option_map (λ r. cond (m == n) (f r) r) (at xs m)
at-edit_at xs n m f = at-map (λ x. cond (x.0 == n) (f x.1) x.1) xs m

pub at-map_each : {R : Type 0} (f : R → R) (xs : List (ℕ × R)) (m : ℕ) → at (map_each f xs) m ≡ option_map f (at xs m)
at-map_each f xs m = at-map (λ x. f x.1) xs m

pub at-without : {R : Type 0} (high : ℕ) (xs : List (ℕ × R)) (low n m : ℕ) → Between low high xs → at (without xs n) m ≡ cond (n == m) None (at xs m)
at-without high [] low n m b = grind (arith, nat_tests)
at-without high (x ∷ xs) low n m b = grind (arith, nat_tests, at-without high xs (x.0 + 1) n m b.2, at-below high xs (x.0 + 1) m b.2)

-- a record put at a number stands there, whatever stood there
pub at-with_at : {R : Type 0} (xs : List (ℕ × R)) (n m : ℕ) (r : R) → at (with_at n r xs) m ≡ cond (n == m) (Some r) (at xs m)
at-with_at [] n m r = refl
at-with_at (x ∷ xs) n m r = grind (arith, nat_tests, at-with_at xs n m r)

-- ---- a change at one number leaves the others

pub at-with_last-other : {R : Type 0} (xs : List (ℕ × R)) (n m : ℕ) (r : R) → m ≢ n → at (with_last xs n r) m ≡ at xs m
at-with_last-other [] n m r ne = cond-false (n == m) (Some r) None (ne_eqb n m (λ s. ne (sym s)))
at-with_last-other (x ∷ xs) n m r ne = λ i. cond (x.0 == m) (Some x.1) (at-with_last-other xs n m r ne i)

pub at-with_at-other : {R : Type 0} (xs : List (ℕ × R)) (n m : ℕ) (r : R) → m ≢ n → at (with_at n r xs) m ≡ at xs m
at-with_at-other xs n m r ne = at-with_at xs n m r ∙ cond-false (n == m) (Some r) (at xs m) (ne_eqb n m (λ s. ne (sym s)))

pub at-edit_at-other : {R : Type 0} (xs : List (ℕ × R)) (n m : ℕ) (f : R → R) → m ≢ n → at (edit_at xs n f) m ≡ at xs m
at-edit_at-other xs n m f ne = at-edit_at xs n m f ∙ by (at xs m)
  where
    by : (o : Option _) → option_map (λ r. cond (m == n) (f r) r) o ≡ o
    by None = refl
    by (Some r) = ap Some (cond-false (m == n) (f r) r (ne_eqb m n ne))

pub at-without-other : {R : Type 0} (xs : List (ℕ × R)) (n m : ℕ) → m ≢ n → at (without xs n) m ≡ at xs m
at-without-other [] n m ne = refl
at-without-other (x ∷ xs) n m ne = by (x.0 == n) refl (at-without-other xs n m ne)
  where
    by : (b : Bool) → (x.0 == n) ≡ b → at (without xs n) m ≡ at xs m → at (cond (not b) (x ∷ without xs n) (without xs n)) m ≡ cond (x.0 == m) (Some x.1) (at xs m)
    by true is e = e ∙ sym (cond-false (x.0 == m) (Some x.1) (at xs m) (ne_eqb x.0 m (λ s. ne (sym s ∙ eqb-true x.0 n is))))
    by false is e = λ i. cond (x.0 == m) (Some x.1) (e i)

-- ---- from what stands after a change to what stood before it

pub at-with_last-back : {R : Type 0} (xs : List (ℕ × R)) (n m : ℕ) (r t : R) → at xs n ≡ None → at (with_last xs n r) m ≡ Some t
    → ((m ≡ n) × (t ≡ r)) ⊎ ((m ≢ n) × (at xs m ≡ Some t))
at-with_last-back xs n m r t free e = by (cases_eq m n)
  where
    by : (m ≡ n) ⊎ (m ≢ n) → ((m ≡ n) × (t ≡ r)) ⊎ ((m ≢ n) × (at xs m ≡ Some t))
    by (inl s) = inl (s, same_Some t r (sym e ∙ at-with_last xs n m r free ∙ cond-true (n == m) (Some r) (at xs m) (eq-eqb n m (sym s))))
    by (inr ne) = inr (ne, sym (cond-false (n == m) (Some r) (at xs m) (ne_eqb n m (λ s. ne (sym s)))) ∙ sym (at-with_last xs n m r free) ∙ e)

pub at-map-back : {R S : Type 0} (g : ℕ × R → S) (xs : List (ℕ × R)) (m : ℕ) (t : S) → at (map (λ x. (x.0, g x)) xs) m ≡ Some t
    → (r : R) × (at xs m ≡ Some r) × (g (m, r) ≡ t)
at-map-back g xs m t e = by (at xs m) refl (sym (at-map g xs m) ∙ e)
  where
    by : (o : Option _) → at xs m ≡ o → option_map (λ r. g (m, r)) o ≡ Some t → (r : _) × (at xs m ≡ Some r) × (g (m, r) ≡ t)
    by None is e = absurd (none-some t e)
    by (Some r) is e = (r, is, same_Some (g (m, r)) t e)

-- what a filter keeps stood there before, and passes
pub at-filter-back : {R : Type 0} (p : ℕ × R → Bool) (high : ℕ) (xs : List (ℕ × R)) (low m : ℕ) (r : R) → Between low high xs → at (filter p xs) m ≡ Some r
    → (at xs m ≡ Some r) × (p (m, r) ≡ true)
at-filter-back p high [] low m r b e = absurd (none-some r e)
at-filter-back p high (x ∷ xs) low m r b e = by (p x) refl e (at-filter-back p high xs (x.0 + 1) m r b.2)
  where
    hit : (d : Bool) → (x.0 == m) ≡ d → p x ≡ true → cond d (Some x.1) (at (filter p xs) m) ≡ Some r
        → (at (filter p xs) m ≡ Some r → (at xs m ≡ Some r) × (p (m, r) ≡ true)) → (cond d (Some x.1) (at xs m) ≡ Some r) × (p (m, r) ≡ true)
    hit true is passes k h =
        let n = eqb-true x.0 m is in let t = same_Some x.1 r k in (k, sym (λ i. p (n i, t i)) ∙ passes)
    hit false is passes k h = h k

    by : (c : Bool) → p x ≡ c → at (cond c (x ∷ filter p xs) (filter p xs)) m ≡ Some r
        → (at (filter p xs) m ≡ Some r → (at xs m ≡ Some r) × (p (m, r) ≡ true)) → (cond (x.0 == m) (Some x.1) (at xs m) ≡ Some r) × (p (m, r) ≡ true)
    by true passes k h = hit (x.0 == m) refl passes k h
    by false fails k h =
        let later = at-within high xs (x.0 + 1) m r b.2 (h k).0 in
        (cond-false (x.0 == m) (Some x.1) (at xs m) (ne_eqb x.0 m (λ s. absurd (omega arith))) ∙ (h k).0, (h k).1)

pub at-edit_at-back : {R : Type 0} (xs : List (ℕ × R)) (n m : ℕ) (f : R → R) (t : R) → at (edit_at xs n f) m ≡ Some t
    → (r : R) × (at xs m ≡ Some r) × (cond (m == n) (f r) r ≡ t)
at-edit_at-back xs n m f t e = at-map-back (λ x. cond (x.0 == n) (f x.1) x.1) xs m t e

pub at-map_each-back : {R : Type 0} (f : R → R) (xs : List (ℕ × R)) (m : ℕ) (t : R) → at (map_each f xs) m ≡ Some t → (r : R) × (at xs m ≡ Some r) × (f r ≡ t)
at-map_each-back f xs m t e = at-map-back (λ x. f x.1) xs m t e

pub at-without-back : {R : Type 0} (high : ℕ) (xs : List (ℕ × R)) (low n m : ℕ) (r : R) → Between low high xs → at (without xs n) m ≡ Some r
    → (at xs m ≡ Some r) × (m ≢ n)
at-without-back high xs low n m r b e =
    let back = at-filter-back (λ x. not (x.0 == n)) high xs low m r b e in
    (back.0, λ s. both_ways (m == n) (not-true (m == n) back.1) (eq-eqb m n s))

-- ---- the numbers stay in order

pub Between-more : {R : Type 0} (high : ℕ) (xs : List (ℕ × R)) (low least most : ℕ) → least ≤ low → high ≤ most → Between low high xs → Between least most xs
Between-more high [] low least most l m b = tt
Between-more high (x ∷ xs) low least most l m b = (omega arith, omega arith, Between-more high xs (x.0 + 1) (x.0 + 1) most (omega arith) m b.2)

pub Between-with_last : {R : Type 0} (high : ℕ) (xs : List (ℕ × R)) (low : ℕ) (r : R) → low ≤ high → Between low high xs → Between low (high + 1) (with_last xs high r)
Between-with_last high [] low r l b = (omega arith, omega arith, tt)
Between-with_last high (x ∷ xs) low r l b = (b.0, omega arith, Between-with_last high xs (x.0 + 1) r (omega arith) b.2)

above : (m n : ℕ) → (m == n) ≡ false → n ≤ m → n + 1 ≤ m
above m n is le = grind (arith, nat_tests)

pub Between-with_at : {R : Type 0} (high : ℕ) (xs : List (ℕ × R)) (low n : ℕ) (r : R) → low ≤ n → n < high → Between low high xs → Between low high (with_at n r xs)
Between-with_at high [] low n r l h b = (l, h, tt)
Between-with_at high (x ∷ xs) low n r l h b = by (nat_lt x.0 n) refl (Between-with_at high xs (x.0 + 1) n r)
  where
    at_it : (c : Bool) → (x.0 == n) ≡ c → n ≤ x.0 → Between (n + 1) high (cond c xs (x ∷ xs))
    at_it true is le = let same = eqb-true x.0 n is in Between-more high xs (x.0 + 1) (n + 1) high (omega arith) (omega arith) b.2
    at_it false is le = (above x.0 n is le, b.1, b.2)

    by : (c : Bool) → nat_lt x.0 n ≡ c → (x.0 + 1 ≤ n → n < high → Between (x.0 + 1) high xs → Between (x.0 + 1) high (with_at n r xs))
        → Between low high (cond c (x ∷ with_at n r xs) ((n, r) ∷ cond (x.0 == n) xs (x ∷ xs)))
    by true is k = (b.0, b.1, let below = ltb-true x.0 n is in k (omega arith) h b.2)
    by false is k = (l, h, at_it (x.0 == n) refl (ltb-false x.0 n is))

pub Between-map : {R S : Type 0} (g : ℕ × R → S) (high : ℕ) (xs : List (ℕ × R)) (low : ℕ) → Between low high xs → Between low high (map (λ x. (x.0, g x)) xs)
Between-map g high [] low b = tt
Between-map g high (x ∷ xs) low b = (b.0, b.1, Between-map g high xs (x.0 + 1) b.2)

pub Between-filter : {R : Type 0} (p : ℕ × R → Bool) (high : ℕ) (xs : List (ℕ × R)) (low : ℕ) → Between low high xs → Between low high (filter p xs)
Between-filter p high [] low b = tt
Between-filter p high (x ∷ xs) low b = kept (p x) (Between-filter p high xs (x.0 + 1) b.2)
  where
    kept : (c : Bool) → Between (x.0 + 1) high (filter p xs) → Between low high (cond c (x ∷ filter p xs) (filter p xs))
    kept true h = (b.0, b.1, h)
    kept false h = Between-more high (filter p xs) (x.0 + 1) low high (omega arith) (omega arith) h

pub Between-edit_at : {R : Type 0} (high : ℕ) (xs : List (ℕ × R)) (low n : ℕ) (f : R → R) → Between low high xs → Between low high (edit_at xs n f)
Between-edit_at high xs low n f b = Between-map (λ x. cond (x.0 == n) (f x.1) x.1) high xs low b

pub Between-map_each : {R : Type 0} (f : R → R) (high : ℕ) (xs : List (ℕ × R)) (low : ℕ) → Between low high xs → Between low high (map_each f xs)
Between-map_each f high xs low b = Between-map (λ x. f x.1) high xs low b

pub Between-without : {R : Type 0} (high : ℕ) (xs : List (ℕ × R)) (low n : ℕ) → Between low high xs → Between low high (without xs n)
Between-without high xs low n b = Between-filter (λ x. not (x.0 == n)) high xs low b

-- ---- how many records there are

pub length-with_last : {R : Type 0} (xs : List (ℕ × R)) (n : ℕ) (r : R) → length (with_last xs n r) ≡ length xs + 1
length-with_last xs n r = rw (length-append xs ((n, r) ∷ [])) (omega arith)

pub length-filter-le : {X : Type 0} (p : X → Bool) (xs : List X) → length (filter p xs) ≤ length xs
length-filter-le p [] = omega arith
length-filter-le p (x ∷ xs) = kept (p x) (length-filter-le p xs)
  where
    kept : (c : Bool) → length (filter p xs) ≤ length xs → length (cond c (x ∷ filter p xs) (filter p xs)) ≤ suc (length xs)
    kept true h = omega arith
    kept false h = omega arith

-- ---- records alike at every number are the same

pub same_numbered : {R : Type 0} (high : ℕ) (xs ys : List (ℕ × R)) (low : ℕ) → Between low high xs → Between low high ys → ((n : ℕ) → at xs n ≡ at ys n) → xs ≡ ys
same_numbered high [] [] low b c e = refl
same_numbered high [] (y ∷ ys) low b c e = absurd (none-some y.1 (e y.0 ∙ cond-true (y.0 == y.0) (Some y.1) (at ys y.0) (eq-eqb y.0 y.0 refl)))
same_numbered high (x ∷ xs) [] low b c e = absurd (none-some x.1 (sym (e x.0) ∙ cond-true (x.0 == x.0) (Some x.1) (at xs x.0) (eq-eqb x.0 x.0 refl)))
same_numbered high (x ∷ xs) (y ∷ ys) low b c e =
    let heads : (x.0 ≡ y.0) × (x.1 ≡ y.1) = grind (arith, nat_tests, e x.0, e y.0, at-below high xs (x.0 + 1) y.0 b.2, at-below high ys (y.0 + 1) x.0 c.2) in
    let rest = same_numbered high xs ys (x.0 + 1) b.2 (Between-more high ys (y.0 + 1) (x.0 + 1) high (omega arith) (omega arith) c.2)
    (λ n. grind (arith, nat_tests, e n, at-below high xs (x.0 + 1) n b.2, at-below high ys (y.0 + 1) n c.2)) in
    λ i. (heads.0 i, heads.1 i) ∷ rest i

-- ---- what a search by a test finds

-- the record of a number that a search found: it stands there and passes
pub record Found {R : Type 0} (test : R → Bool) (xs : List (ℕ × R)) (n : ℕ) : Type 0 where
  pub record_found : R
  pub stands : at xs n ≡ Some record_found
  pub passes : test record_found ≡ true

pub first_where-found : {R : Type 0} (test : R → Bool) (high : ℕ) (xs : List (ℕ × R)) (low n : ℕ) → Between low high xs → first_where test xs ≡ Some n → Found test xs n
first_where-found test high [] low n b e = absurd (none-some n e)
first_where-found test high (x ∷ xs) low n b e = by (test x.1) refl e (first_where-found test high xs (x.0 + 1) n b.2)
  where
    by : (c : Bool) → test x.1 ≡ c → cond c (Some x.0) (first_where test xs) ≡ Some n → (first_where test xs ≡ Some n → Found test xs n) → Found test (x ∷ xs) n
    by true is k h = record {
      record_found = x.1;
      stands = cond-true (x.0 == n) (Some x.1) (at xs n) (eq-eqb x.0 n (same_Some x.0 n k));
      passes = is;
    }
    by false is k h =
        let f = h k in
        let later = at-within high xs (x.0 + 1) n f.record_found b.2 f.stands in
        record {
          record_found = f.record_found;
          stands = cond-false (x.0 == n) (Some x.1) (at xs n) (ne_eqb x.0 n (λ s. absurd (omega arith))) ∙ f.stands;
          passes = f.passes;
        }

-- where a search finds nothing, no record passes
pub first_where-none : {R : Type 0} (test : R → Bool) (xs : List (ℕ × R)) (m : ℕ) (r : R) → first_where test xs ≡ None → at xs m ≡ Some r → test r ≡ false
first_where-none test [] m r e k = absurd (none-some r k)
first_where-none test (x ∷ xs) m r e k = by (test x.1) (x.0 == m) refl e k (first_where-none test xs m r)
  where
    by : (c d : Bool) → test x.1 ≡ c → cond c (Some x.0) (first_where test xs) ≡ None → cond d (Some x.1) (at xs m) ≡ Some r
        → (first_where test xs ≡ None → at xs m ≡ Some r → test r ≡ false) → test r ≡ false
    by true d is e k h = absurd (none-some x.0 (sym e))
    by false true is e k h = ap test (sym (same_Some x.1 r k)) ∙ is
    by false false is e k h = h e k

-- where a record passes, a search finds one
pub is_found-from : {R : Type 0} (test : R → Bool) (xs : List (ℕ × R)) (m : ℕ) (r : R) → at xs m ≡ Some r → test r ≡ true → is_some (first_where test xs) ≡ true
is_found-from test [] m r k t = absurd (none-some r k)
is_found-from test (x ∷ xs) m r k t = by (test x.1) (x.0 == m) refl k (λ j. is_found-from test xs m r j t)
  where
    by : (c d : Bool) → test x.1 ≡ c → cond d (Some x.1) (at xs m) ≡ Some r → (at xs m ≡ Some r → is_some (first_where test xs) ≡ true)
        → is_some (cond c (Some x.0) (first_where test xs)) ≡ true
    by true d is k h = refl
    by false true is k h = absurd (both_ways (test x.1) is (ap test (same_Some x.1 r k) ∙ t))
    by false false is k h = h k

-- the number of what is found
pub by_is_some : {X P : Type 0} (o : Option X) → is_some o ≡ true → ((x : X) → o ≡ Some x → P) → P
by_is_some None e k = absurd (false≢true e)
by_is_some (Some x) e k = k x refl

-- a record that was found and stands at its number still, changed or not, is found still
pub found_too : {R : Type 0} (test : R → Bool) (high : ℕ) (xs ys : List (ℕ × R)) (low : ℕ) → Between low high xs
    → ((m : ℕ) (r : R) → at xs m ≡ Some r → test r ≡ true → (t : R) × (at ys m ≡ Some t) × (test t ≡ true))
    → is_some (first_where test xs) ≡ true → is_some (first_where test ys) ≡ true
found_too test high xs ys low b kept e = by_is_some (first_where test xs) e (λ n is.
    let f = first_where-found test high xs low n b is in
    let t = kept n f.record_found f.stands f.passes in
    is_found-from test ys n t.0 t.1 t.2)

-- a test that each change leaves finds the same number
pub first_where-map : {R S : Type 0} (test : R → Bool) (after : S → Bool) (g : ℕ × R → S) → ((x : ℕ × R) → after (g x) ≡ test x.1)
    → (xs : List (ℕ × R)) → first_where after (map (λ x. (x.0, g x)) xs) ≡ first_where test xs
first_where-map test after g same [] = refl
first_where-map test after g same (x ∷ xs) = λ i. cond (same x i) (Some x.0) (first_where-map test after g same xs i)

-- a number is among those of some records exactly where one of them has it
pub among_present : {R : Type 0} (rows : List (ℕ × R)) (n : ℕ) → is_among n (numbers rows) ≡ is_present rows n
among_present [] n = refl
among_present (x ∷ rows) n = by (x.0 == n) (among_present rows n)
  where
    by : (b : Bool) → is_among n (numbers rows) ≡ is_present rows n → (b || is_among n (numbers rows)) ≡ is_some (cond b (Some x.1) (at rows n))
    by true e = refl
    by false e = e
