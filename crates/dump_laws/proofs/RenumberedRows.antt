-- Laws on records that are numbered anew: they stay in order, and a name that one of them has alone finds its new number.
use Rattle.std.proofs.Common.{◌≡◌, ℕ, ◌+◌, ◌<◌, ◌≤◌, ◌==◌, nat_lt, Bool, true, false, cond, inl, inr, List, [], ◌∷◌, ◌++◌, flat_map, length, None, Some, refl, sym, ◌∙◌, ap, subst, arith, eqb-true, eq-eqb, ne_eqb, bytes_eq}
use Rattle.std.proofs.lemmas.Bool.{lt-ltb, cond-true, cond-false, both_ways, false_from_ne_true}
use Rattle.std.proofs.lemmas.Option.{same_Some, none-some}
use Rattle.ctrl_model.specs.Membership.{Among}
use Rattle.ctrl_model.specs.Numbered.{Table, at, first_where, edit_at, with_at, with_new, Between}
use Rattle.ctrl_model.specs.ValidState.{HaveUniqueNames}
use Rattle.ctrl_model.proofs.DistinctLaws.{same_name, same_bytes}
use Rattle.ctrl_model.proofs.Members.{Among-append_left}
use Rattle.ctrl_model.proofs.NumberedLaws.{at-within}

-- ---- records under numbers of their own

-- the number behind as many records, from a number on
abbrev pub behind : {X : Type 0} → ℕ → List X → ℕ
behind n [] = n
behind n (x ∷ xs) = behind (n + 1) xs

-- the records in their order under numbers from a number on, each changed
abbrev pub renumbered : {R S : Type 0} → (R → S) → ℕ → List (ℕ × R) → List (ℕ × S)
renumbered g n [] = []
renumbered g n (x ∷ xs) = (n, g x.1) ∷ renumbered g (n + 1) xs

-- the number that the record of a number has then
abbrev pub place : {R : Type 0} → ℕ → List (ℕ × R) → ℕ → ℕ
place n [] m = 0
place n (x ∷ xs) m = cond (x.0 == m) n (place (n + 1) xs m)

-- a table of the records under numbers from a number on
abbrev pub anew : {R S : Type 0} → ℕ → (R → S) → List (ℕ × R) → Table S
anew n g xs = record { rows = renumbered g n xs; next = behind n xs }

-- ---- one record more

pub behind-last : {X : Type 0} (n : ℕ) (xs : List X) (x : X) → behind n (xs ++ x ∷ []) ≡ behind n xs + 1
behind-last n [] x = refl
behind-last n (y ∷ xs) x = behind-last (n + 1) xs x

pub renumbered-last : {R S : Type 0} (g : R → S) (n : ℕ) (xs : List (ℕ × R)) (x : ℕ × R)
    → renumbered g n (xs ++ x ∷ []) ≡ renumbered g n xs ++ (behind n xs, g x.1) ∷ []
renumbered-last g n [] x = refl
renumbered-last g n (y ∷ xs) x = ap (λ zs. (n, g y.1) ∷ zs) (renumbered-last g (n + 1) xs x)

pub anew-last : {R S : Type 0} (n : ℕ) (g : R → S) (xs : List (ℕ × R)) (x : ℕ × R) → anew n g (xs ++ x ∷ []) ≡ with_new (g x.1) (anew n g xs)
anew-last n g xs x = λ i. record { rows = renumbered-last g n xs x i; next = behind-last n xs x i }

-- ---- how many, and in which order

pub behind-length : {X : Type 0} (n : ℕ) (xs : List X) → behind n xs ≡ n + length xs
behind-length n [] = omega arith
behind-length n (x ∷ xs) = let h = behind-length (n + 1) xs in omega arith

pub behind-le : {X : Type 0} (n : ℕ) (xs : List X) → n ≤ behind n xs
behind-le n xs = let h = behind-length n xs in omega arith

pub length-renumbered : {R S : Type 0} (g : R → S) (n : ℕ) (xs : List (ℕ × R)) → length (renumbered g n xs) ≡ length xs
length-renumbered g n [] = refl
length-renumbered g n (x ∷ xs) = let h = length-renumbered g (n + 1) xs in omega arith

pub Between-renumbered : {R S : Type 0} (g : R → S) (n : ℕ) (xs : List (ℕ × R)) → Between n (behind n xs) (renumbered g n xs)
Between-renumbered g n [] = tt
Between-renumbered g n (x ∷ xs) = (omega arith, let h = behind-le (n + 1) xs in omega arith, Between-renumbered g (n + 1) xs)

-- ---- the records as they stood

-- a record that is among those of ascending numbers stands at its number
pub at-here : {R : Type 0} (high : ℕ) (xs : List (ℕ × R)) (low : ℕ) (y : ℕ × R) → Between low high xs → Among y xs → (at xs y.0 ≡ Some y.1) × (low ≤ y.0)
at-here high [] low y b m = absurd m
at-here high (x ∷ xs) low y b (inl e) =
    subst (λ z. (at (x ∷ xs) z.0 ≡ Some z.1) × (low ≤ z.0)) e (cond-true (x.0 == x.0) (Some x.1) (at xs x.0) (eq-eqb x.0 x.0 refl), b.0)
at-here high (x ∷ xs) low y b (inr m) =
    let h = at-here high xs (x.0 + 1) y b.2 m in
    let later : x.0 + 1 ≤ y.0 = h.1 in
    let least : low ≤ x.0 = b.0 in
    (cond-false (x.0 == y.0) (Some x.1) (at xs y.0) (ne_eqb x.0 y.0 (λ s. absurd (omega (arith, later, s)))) ∙ h.0, omega (arith, later, least))

pub Among-middle : {X : Type 0} (pre : List X) (x : X) (post : List X) → Among x (pre ++ x ∷ post)
Among-middle [] x post = inl refl
Among-middle (z ∷ pre) x post = inr (Among-middle pre x post)

-- those before a record have lesser numbers
pub earlier : {R : Type 0} (high : ℕ) (pre : List (ℕ × R)) (low : ℕ) (x : ℕ × R) (post : List (ℕ × R)) (y : ℕ × R) → Between low high (pre ++ x ∷ post)
    → Among y pre → y.0 < x.0
earlier high [] low x post y b m = absurd m
earlier high (z ∷ pre) low x post y b (inl e) =
    let h = (at-here high (pre ++ x ∷ post) (z.0 + 1) x b.2 (Among-middle pre x post)).1 in
    let same : z.0 ≡ y.0 = ap (λ (w : ℕ × _). w.0) e in
    omega (arith, h, same)
earlier high (z ∷ pre) low x post y b (inr m) = earlier high pre (z.0 + 1) x post y b.2 m

-- their names are others
pub earlier-differs : {R : Type 0} (name_of : R → List ℕ) (high low : ℕ) (pre : List (ℕ × R)) (x : ℕ × R) (post : List (ℕ × R)) → Between low high (pre ++ x ∷ post)
    → HaveUniqueNames name_of (pre ++ x ∷ post) → (y : ℕ × R) → Among y pre → bytes_eq (name_of y.1) (name_of x.1) ≡ false
earlier-differs name_of high low pre x post b unique y m = false_from_ne_true (bytes_eq (name_of y.1) (name_of x.1)) (λ e.
    let one = at-here high (pre ++ x ∷ post) low y b (Among-append_left pre (x ∷ post) y m) in
    let other = at-here high (pre ++ x ∷ post) low x b (Among-middle pre x post) in
    let same = unique y.0 x.0 y.1 x.1 one.0 other.0 (same_name (name_of y.1) (name_of x.1) e) in
    let less = earlier high pre low x post y b m in
    absurd (omega (arith, same, less)))

-- a test that none of the records passes finds none of them
pub none-found : {R S : Type 0} (test : S → Bool) (g : R → S) (n : ℕ) (xs : List (ℕ × R)) → ((y : ℕ × R) → Among y xs → test (g y.1) ≡ false)
    → first_where test (renumbered g n xs) ≡ None
none-found test g n [] k = refl
none-found test g n (x ∷ xs) k =
    cond-false (test (g x.1)) (Some n) (first_where test (renumbered g (n + 1) xs)) (k x (inl refl)) ∙ none-found test g (n + 1) xs (λ y m. k y (inr m))

-- a test that the last record alone passes finds its number
pub last-found : {R S : Type 0} (test : S → Bool) (g : R → S) (n : ℕ) (xs : List (ℕ × R)) (m : ℕ) (t : S) → ((y : ℕ × R) → Among y xs → test (g y.1) ≡ false) → test t ≡ true
    → first_where test (renumbered g n xs ++ (m, t) ∷ []) ≡ Some m
last-found test g n [] m t k e = cond-true (test t) (Some m) None e
last-found test g n (x ∷ xs) m t k e =
    cond-false (test (g x.1)) (Some n) (first_where test (renumbered g (n + 1) xs ++ (m, t) ∷ [])) (k x (inl refl))
    ∙ last-found test g (n + 1) xs m t (λ y a. k y (inr a)) e

-- ---- a change of the last record

pub edit-last : {R : Type 0} (f : R → R) (xs : List (ℕ × R)) (low n : ℕ) (r : R) → Between low n xs → edit_at (xs ++ (n, r) ∷ []) n f ≡ xs ++ (n, f r) ∷ []
edit-last f [] low n r b = ap (λ (q : _). (n, q) ∷ []) (cond-true (n == n) (f r) r (eq-eqb n n refl))
edit-last {R} f (x ∷ xs) low n r b =
    λ i. (x.0, cond-false (x.0 == n) (f x.1) x.1 (ne_eqb x.0 n (λ s. absurd (let h : x.0 < n = b.1 in omega (arith, h, s)))) i) ∷ edit-last f xs (x.0 + 1) n r b.2 i

pub with_at-last : {R : Type 0} (xs : List (ℕ × R)) (low n : ℕ) (r : R) → Between low n xs → with_at n r xs ≡ xs ++ (n, r) ∷ []
with_at-last [] low n r b = refl
with_at-last (x ∷ xs) low n r b =
    cond-true (nat_lt x.0 n) (x ∷ with_at n r xs) ((n, r) ∷ cond (x.0 == n) xs (x ∷ xs)) (lt-ltb x.0 n b.1) ∙ ap (λ zs. x ∷ zs) (with_at-last xs (x.0 + 1) n r b.2)

-- ---- where a record stands anew

pub place-least : {R : Type 0} (n : ℕ) (xs : List (ℕ × R)) (m : ℕ) (r : R) → at xs m ≡ Some r → n ≤ place n xs m
place-least n [] m r e = absurd (none-some r e)
place-least {R} n (x ∷ xs) m r e = by (x.0 == m) e (place-least (n + 1) xs m r)
  where
    by : (b : Bool) → cond b (Some x.1) (at xs m) ≡ Some r → (at xs m ≡ Some r → n + 1 ≤ place (n + 1) xs m) → n ≤ cond b n (place (n + 1) xs m)
    by true k h = omega arith
    by false k h = let l = h k in omega (arith, l)

pub at-place : {R S : Type 0} (g : R → S) (n : ℕ) (xs : List (ℕ × R)) (m : ℕ) (r : R) → at xs m ≡ Some r → at (renumbered g n xs) (place n xs m) ≡ Some (g r)
at-place g n [] m r e = absurd (none-some r e)
at-place {R} {S} g n (x ∷ xs) m r e = by (x.0 == m) e (λ k. (at-place g (n + 1) xs m r k, place-least (n + 1) xs m r k))
  where
    by : (b : Bool) → cond b (Some x.1) (at xs m) ≡ Some r
        → (at xs m ≡ Some r → (at (renumbered g (n + 1) xs) (place (n + 1) xs m) ≡ Some (g r)) × (n + 1 ≤ place (n + 1) xs m))
        → cond (n == cond b n (place (n + 1) xs m)) (Some (g x.1)) (at (renumbered g (n + 1) xs) (cond b n (place (n + 1) xs m))) ≡ Some (g r)
    by true k h = cond-true (n == n) (Some (g x.1)) (at (renumbered g (n + 1) xs) n) (eq-eqb n n refl) ∙ ap (λ q. Some (g q)) (same_Some x.1 r k)
    by false k h =
        let l = (h k).1 in
        cond-false (n == place (n + 1) xs m) (Some (g x.1)) (at (renumbered g (n + 1) xs) (place (n + 1) xs m)) (ne_eqb n (place (n + 1) xs m) (λ s. absurd (omega (arith, l, s)))) ∙ (h k).0

pub place-rises : {R : Type 0} (n : ℕ) (high : ℕ) (xs : List (ℕ × R)) (low m k : ℕ) (q r : R) → Between low high xs → at xs m ≡ Some q → at xs k ≡ Some r → m < k
    → place n xs m < place n xs k
place-rises n high [] low m k q r b e f l = absurd (none-some q e)
place-rises {R} n high (x ∷ xs) low m k q r b e f l =
    by (x.0 == m) (x.0 == k) refl refl e f (place-least (n + 1) xs k r) (place-rises (n + 1) high xs (x.0 + 1) m k q r b.2) (λ h. (at-within high xs (x.0 + 1) m q b.2 h).0)
  where
    by : (c d : Bool) → (x.0 == m) ≡ c → (x.0 == k) ≡ d → cond c (Some x.1) (at xs m) ≡ Some q → cond d (Some x.1) (at xs k) ≡ Some r
        → (at xs k ≡ Some r → n + 1 ≤ place (n + 1) xs k) → (at xs m ≡ Some q → at xs k ≡ Some r → m < k → place (n + 1) xs m < place (n + 1) xs k)
        → (at xs m ≡ Some q → x.0 + 1 ≤ m) → cond c n (place (n + 1) xs m) < cond d n (place (n + 1) xs k)
    by true true is_m is_k e f p h w = let a = eqb-true x.0 m is_m in let b = eqb-true x.0 k is_k in absurd (omega (arith, a, b, l))
    by true false is_m is_k e f p h w = let a = p f in omega (arith, a)
    by false true is_m is_k e f p h w = let a = w e in let b = eqb-true x.0 k is_k in absurd (omega (arith, a, b, l))
    by false false is_m is_k e f p h w = h e f l

-- a test that one record alone passes finds where it stands anew
pub place-found : {R S : Type 0} (test : S → Bool) (g : R → S) (n high : ℕ) (xs : List (ℕ × R)) (low m : ℕ) (r : R) → Between low high xs → at xs m ≡ Some r → test (g r) ≡ true
    → ((k : ℕ) (q : R) → at xs k ≡ Some q → test (g q) ≡ true → k ≡ m) → first_where test (renumbered g n xs) ≡ Some (place n xs m)
place-found test g n high [] low m r b e t unique = absurd (none-some r e)
place-found {R} {S} test g n high (x ∷ xs) low m r b e t unique =
    by (test (g x.1)) (x.0 == m) refl refl e (λ k. place-found test g (n + 1) high xs (x.0 + 1) m r b.2 k t (λ j q a p.
    let within = (at-within high xs (x.0 + 1) j q b.2 a).0 in
    unique j q (cond-false (x.0 == j) (Some x.1) (at xs j) (ne_eqb x.0 j (λ s. absurd (omega (arith, within, s)))) ∙ a) p))
  where
    by : (c d : Bool) → test (g x.1) ≡ c → (x.0 == m) ≡ d → cond d (Some x.1) (at xs m) ≡ Some r
        → (at xs m ≡ Some r → first_where test (renumbered g (n + 1) xs) ≡ Some (place (n + 1) xs m))
        → cond c (Some n) (first_where test (renumbered g (n + 1) xs)) ≡ Some (cond d n (place (n + 1) xs m))
    by true true passes is e h = refl
    by true false passes is e h =
        absurd (both_ways (x.0 == m) is (eq-eqb x.0 m (unique x.0 x.1 (cond-true (x.0 == x.0) (Some x.1) (at xs x.0) (eq-eqb x.0 x.0 refl)) passes)))
    by false true passes is e h = absurd (both_ways (test (g x.1)) passes (ap (λ q. test (g q)) (same_Some x.1 r e) ∙ t))
    by false false passes is e h = h e

-- a name that a record has alone finds where it stands anew
pub name-found : {R S : Type 0} (name_of : R → List ℕ) (named : S → List ℕ) (g : R → S) → ((r : R) → named (g r) ≡ name_of r) → (n high : ℕ) (xs : List (ℕ × R)) (low m : ℕ) (r : R)
    → Between low high xs → HaveUniqueNames name_of xs → at xs m ≡ Some r → first_where (λ t. bytes_eq (named t) (name_of r)) (renumbered g n xs) ≡ Some (place n xs m)
name-found name_of named g keeps n high xs low m r b unique e =
    place-found (λ t. bytes_eq (named t) (name_of r)) g n high xs low m r b e (same_bytes (named (g r)) (name_of r) (keeps r)) (λ k q a p.
    unique k m q r a e (sym (keeps q) ∙ same_name (named (g q)) (name_of r) p))

-- ---- what is made of each record

pub flat_map-renumbered : {R S Y : Type 0} (f : ℕ × S → List Y) (h : ℕ × R → List Y) (g : R → S) (n : ℕ) (xs : List (ℕ × R))
    → ((m : ℕ) (x : ℕ × R) → Among x xs → f (m, g x.1) ≡ h x) → flat_map f (renumbered g n xs) ≡ flat_map h xs
flat_map-renumbered f h g n [] k = refl
flat_map-renumbered f h g n (x ∷ xs) k = λ i. k n x (inl refl) i ++ flat_map-renumbered f h g (n + 1) xs (λ m y a. k m y (inr a)) i
