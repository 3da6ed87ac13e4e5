-- Counts with the same count of each pair are the same list.
use Rattle.std.proofs.Common.{◌≡◌, ℕ, ◌<◌, ◌==◌, nat_lt, ◌&&◌, ◌⊎◌, Bool, true, false, cond, List, [], ◌∷◌, inl, inr, refl, sym, ◌∙◌, ap₂, arith, eqb-true, eq-eqb}
use Rattle.std.proofs.lemmas.Bool.{and_parts, and_from, cond-true, cond-false, cases_order}
use Rattle.std.proofs.lemmas.Grind.{common_steps}
use Rattle.grant_denorm.specs.PairCounts.{same_pair, count_of, precedes_pair, ComesFirst, AreCounts}

-- ---- the order of pairs

same_itself : (p : ℕ × ℕ) → same_pair p (p.0, p.1) ≡ true
same_itself p = and_from (p.0 == p.0) (p.1 == p.1) (eq-eqb p.0 p.0 refl) (eq-eqb p.1 p.1 refl)

same_parts : (p q : ℕ × ℕ) → same_pair p q ≡ true → (p.0 ≡ q.0) × (p.1 ≡ q.1)
same_parts p q e =
    let parts = and_parts (p.0 == q.0) (p.1 == q.1) e in
    (eqb-true p.0 q.0 parts.0, eqb-true p.1 q.1 parts.1)

precedes_on : (p q r : ℕ × ℕ) → precedes_pair p q ≡ true → precedes_pair q r ≡ true → precedes_pair p r ≡ true
precedes_on p q r e f = on p.0 p.1 q.0 q.1 r.0 r.1 e f
  where
    on : (a b c d x y : ℕ) → cond (a == c) (nat_lt b d) (nat_lt a c) ≡ true → cond (c == x) (nat_lt d y) (nat_lt c x) ≡ true → cond (a == x) (nat_lt b y) (nat_lt a x) ≡ true
    on a b c d x y e f = grind (arith, common_steps)

three_ways : (p q : ℕ × ℕ) → (same_pair p q ≡ true) ⊎ ((precedes_pair p q ≡ true) ⊎ (precedes_pair q p ≡ true))
three_ways p q = at p.0 p.1 q.0 q.1 (cases_order p.0 q.0) (cases_order p.1 q.1)
  where
    at : (a b c d : ℕ) → (a ≡ c) ⊎ ((a < c) ⊎ (c < a)) → (b ≡ d) ⊎ ((b < d) ⊎ (d < b))
        → (((a == c) && (b == d)) ≡ true) ⊎ ((cond (a == c) (nat_lt b d) (nat_lt a c) ≡ true) ⊎ (cond (c == a) (nat_lt d b) (nat_lt c a) ≡ true))
    at a b c d (inl e) (inl f) = inl (grind (arith, common_steps))
    at a b c d (inl e) (inr (inl f)) = inr (inl (grind (arith, common_steps)))
    at a b c d (inl e) (inr (inr f)) = inr (inr (grind (arith, common_steps)))
    at a b c d (inr (inl e)) f = inr (inl (grind (arith, common_steps)))
    at a b c d (inr (inr e)) f = inr (inr (grind (arith, common_steps)))

-- a pair that comes before all others is not among them
uncounted : (p : ℕ × ℕ) (xs : List ((ℕ × ℕ) × ℕ)) → ComesFirst p xs → count_of xs p.0 p.1 ≡ 0
uncounted p [] c = refl
uncounted p (x ∷ xs) c = cond-false (same_pair x.0 (p.0, p.1)) x.1 (count_of xs p.0 p.1) (apart p.0 p.1 x.0.0 x.0.1 c.0) ∙ uncounted p xs c.1
  where
    apart : (a b x y : ℕ) → cond (a == x) (nat_lt b y) (nat_lt a x) ≡ true → ((x == a) && (y == b)) ≡ false
    apart a b x y e = grind (arith, common_steps)

comes_on : (p q : ℕ × ℕ) (xs : List ((ℕ × ℕ) × ℕ)) → precedes_pair p q ≡ true → ComesFirst q xs → ComesFirst p xs
comes_on p q [] e c = tt
comes_on p q (x ∷ xs) e c = (precedes_on p q x.0 e c.0, comes_on p q xs e c.1)

-- ---- one pair and those after it

count_of-first : (x : (ℕ × ℕ) × ℕ) (xs : List ((ℕ × ℕ) × ℕ)) → count_of (x ∷ xs) x.0.0 x.0.1 ≡ x.1
count_of-first x xs = cond-true (same_pair x.0 (x.0.0, x.0.1)) x.1 (count_of xs x.0.0 x.0.1) (same_itself x.0)

abbrev pub Alike : List ((ℕ × ℕ) × ℕ) → List ((ℕ × ℕ) × ℕ) → Type 0
Alike xs ys = (p q : ℕ) → count_of xs p q ≡ count_of ys p q

-- a list does not begin with a pair that comes before all of a list that is alike
not_before : (x : (ℕ × ℕ) × ℕ) (xs ys : List ((ℕ × ℕ) × ℕ)) → 0 < x.1 → Alike (x ∷ xs) ys → ComesFirst x.0 ys → ⊥
not_before x xs ys h e c = none x.1 h (sym (count_of-first x xs) ∙ e x.0.0 x.0.1 ∙ uncounted x.0 ys c)
  where
    none : (n : ℕ) → 0 < n → n ≡ 0 → ⊥
    none n h e = absurd (omega arith)

same_first : (x y : (ℕ × ℕ) × ℕ) (xs ys : List ((ℕ × ℕ) × ℕ)) → Alike (x ∷ xs) (y ∷ ys) → same_pair x.0 y.0 ≡ true → x.1 ≡ y.1
same_first x y xs ys e s =
    let parts = same_parts x.0 y.0 s in
    sym (count_of-first x xs) ∙ e x.0.0 x.0.1 ∙ ap₂ (λ a b. count_of (y ∷ ys) a b) parts.0 parts.1 ∙ count_of-first y ys

same_rest : (x y : (ℕ × ℕ) × ℕ) (xs ys : List ((ℕ × ℕ) × ℕ)) → Alike (x ∷ xs) (y ∷ ys) → same_pair x.0 y.0 ≡ true → ComesFirst x.0 xs → ComesFirst y.0 ys → Alike xs ys
same_rest x y xs ys e s c d p q = at (same_pair x.0 (p, q)) refl
  where
    turned : same_pair y.0 (p, q) ≡ same_pair x.0 (p, q)
    turned = let parts = same_parts x.0 y.0 s in sym (ap₂ (λ a b. (a == p) && (b == q)) parts.0 parts.1)

    at : (t : Bool) → same_pair x.0 (p, q) ≡ t → count_of xs p q ≡ count_of ys p q
    at true is =
        let one = same_parts x.0 (p, q) is in
        let other = same_parts y.0 (p, q) (turned ∙ is) in
        sym (ap₂ (λ a b. count_of xs a b) one.0 one.1) ∙ uncounted x.0 xs c ∙ sym (uncounted y.0 ys d) ∙ ap₂ (λ a b. count_of ys a b) other.0 other.1
    at false is =
        sym (cond-false (same_pair x.0 (p, q)) x.1 (count_of xs p q) is) ∙ e p q ∙ cond-false (same_pair y.0 (p, q)) y.1 (count_of ys p q) (turned ∙ is)

pub one_list : (xs ys : List ((ℕ × ℕ) × ℕ)) → AreCounts xs → AreCounts ys → Alike xs ys → xs ≡ ys
one_list [] [] c d e = refl
one_list [] (y ∷ ys) c d e = absurd (not_before y ys [] d.0 (λ p q. sym (e p q)) tt)
one_list (x ∷ xs) [] c d e = absurd (not_before x xs [] c.0 e tt)
one_list (x ∷ xs) (y ∷ ys) c d e = by (λ f. one_list xs ys c.2 d.2 f) (three_ways x.0 y.0)
  where
    joined : (a b m u v n : ℕ) → a ≡ u → b ≡ v → m ≡ n → ◌≡◌ {A = (ℕ × ℕ) × ℕ} ((a, b), m) ((u, v), n)
    joined a b m u v n e f g = ap₂ (λ (p : ℕ × ℕ) (k : ℕ). (p, k)) (ap₂ (λ (j k : ℕ). (j, k)) e f) g

    by : (Alike xs ys → xs ≡ ys) → (same_pair x.0 y.0 ≡ true) ⊎ ((precedes_pair x.0 y.0 ≡ true) ⊎ (precedes_pair y.0 x.0 ≡ true)) → x ∷ xs ≡ y ∷ ys
    by again (inl s) =
        let parts = same_parts x.0 y.0 s in
        ap₂ (λ (z : (ℕ × ℕ) × ℕ) (zs : List ((ℕ × ℕ) × ℕ)). z ∷ zs) (joined x.0.0 x.0.1 x.1 y.0.0 y.0.1 y.1 parts.0 parts.1 (same_first x y xs ys e s))
        (again (same_rest x y xs ys e s c.1 d.1))
    by again (inr (inl s)) = absurd (not_before x xs (y ∷ ys) c.0 e (s, comes_on x.0 y.0 ys s d.1))
    by again (inr (inr s)) = absurd (not_before y ys (x ∷ xs) d.0 (λ p q. sym (e p q)) (s, comes_on y.0 x.0 xs s c.1))
