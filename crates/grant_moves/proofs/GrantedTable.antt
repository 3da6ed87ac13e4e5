-- The pairs that a rule of counts grants among some numbers, as one list of counts in order.
use Rattle.std.proofs.Common.{◌≡◌, ℕ, ◌<◌, ◌==◌, nat_lt, Bool, true, false, cond, ◌&&◌, ◌||◌, List, [], ◌∷◌, ◌++◌, map, filter, inl, inr, refl, ◌∙◌, ap, ap₂, subst, eqb-true, eq-eqb, ltb-true, arith}
use Rattle.std.proofs.lemmas.Bool.{cond-true, lt-ltb}
use Rattle.std.proofs.lemmas.Grind.{common_steps}
use Rattle.std.specs.List.{flat_map}
use Rattle.ctrl_model.specs.Membership.{Among}
use Rattle.ctrl_model.specs.Walks.{is_among}
use Rattle.ctrl_model.proofs.Members.{by_map, by_filter, by_flat_map}
use Rattle.grant_denorm.specs.PairCounts.{count_of, precedes_pair, ComesFirst, AreCounts, Ascends}

-- the pairs of a left number that a rule grants, each with its count
abbrev pub row_of : (ℕ → ℕ → ℕ) → List ℕ → ℕ → List ((ℕ × ℕ) × ℕ)
row_of rule rights a = map (λ b. ((a, b), rule a b)) (filter (λ b. nat_lt 0 (rule a b)) rights)

-- the pairs of all left numbers
abbrev pub grant_table : (ℕ → ℕ → ℕ) → List ℕ → List ℕ → List ((ℕ × ℕ) × ℕ)
grant_table rule lefts rights = flat_map (row_of rule rights) lefts

-- ---- the count of each pair

row_counts : (rule : ℕ → ℕ → ℕ) (a : ℕ) (later : List ((ℕ × ℕ) × ℕ)) (p q : ℕ) (rights : List ℕ)
    → count_of (row_of rule rights a ++ later) p q ≡ cond ((a == p) && (is_among q rights && nat_lt 0 (rule p q))) (rule p q) (count_of later p q)
row_counts rule a later p q [] = nothing (a == p)
  where
    nothing : (s : Bool) → count_of later p q ≡ cond (s && false) (rule p q) (count_of later p q)
    nothing true = refl
    nothing false = refl
row_counts rule a later p q (b ∷ rights) =
    opened (nat_lt 0 (rule a b))
    ∙ by (nat_lt 0 (rule a b)) (a == p) (b == q) (nat_lt 0 (rule p q)) (is_among q rights) (rule a b) (rule p q) (count_of later p q) (count_of (row_of rule rights a ++ later) p q)
    (λ s t. same s t) (λ s t. ap (λ n. nat_lt 0 n) (same s t)) (row_counts rule a later p q rights)
  where
    same : (a == p) ≡ true → (b == q) ≡ true → rule a b ≡ rule p q
    same s t = ap₂ rule (eqb-true a p s) (eqb-true b q t)

    passing : List ℕ
    passing = filter (λ n. nat_lt 0 (rule a n)) rights

    opened : (k : Bool) → count_of (map (λ n. ((a, n), rule a n)) (cond k (b ∷ passing) passing) ++ later) p q
        ≡ cond k (cond ((a == p) && (b == q)) (rule a b) (count_of (row_of rule rights a ++ later) p q)) (count_of (row_of rule rights a ++ later) p q)
    opened true = refl
    opened false = refl

    by : (k s t g m : Bool) (v w l n : ℕ) → (s ≡ true → t ≡ true → v ≡ w) → (s ≡ true → t ≡ true → k ≡ g) → n ≡ cond (s && (m && g)) w l
        → cond k (cond (s && t) v n) n ≡ cond (s && ((t || m) && g)) w l
    by k s t g m v w l n e f h = grind (arith, common_steps)

pub table_counts : (rule : ℕ → ℕ → ℕ) (rights : List ℕ) (p q : ℕ) (lefts : List ℕ)
    → count_of (grant_table rule lefts rights) p q ≡ cond (is_among p lefts && (is_among q rights && nat_lt 0 (rule p q))) (rule p q) 0
table_counts rule rights p q [] = refl
table_counts rule rights p q (a ∷ lefts) =
    row_counts rule a (grant_table rule lefts rights) p q rights
    ∙ ap (λ n. cond ((a == p) && (is_among q rights && nat_lt 0 (rule p q))) (rule p q) n) (table_counts rule rights p q lefts)
    ∙ by (a == p) (is_among p lefts) (is_among q rights && nat_lt 0 (rule p q)) (rule p q)
  where
    by : (s m g : Bool) (w : ℕ) → cond (s && g) w (cond (m && g) w 0) ≡ cond ((s || m) && g) w 0
    by s m g w = grind (arith, common_steps)

-- ---- the order of the pairs

ComesFirst-from : (p : ℕ × ℕ) (xs : List ((ℕ × ℕ) × ℕ)) → ((x : (ℕ × ℕ) × ℕ) → Among x xs → precedes_pair p x.0 ≡ true) → ComesFirst p xs
ComesFirst-from p [] each = tt
ComesFirst-from p (x ∷ xs) each = (each x (inl refl), ComesFirst-from p xs (λ y m. each y (inr m)))

ComesFirst-append : (p : ℕ × ℕ) (xs ys : List ((ℕ × ℕ) × ℕ)) → ComesFirst p xs → ComesFirst p ys → ComesFirst p (xs ++ ys)
ComesFirst-append p [] ys c d = d
ComesFirst-append p (x ∷ xs) ys c d = (c.0, ComesFirst-append p xs ys c.1 d)

AreCounts-append : (xs ys : List ((ℕ × ℕ) × ℕ)) → AreCounts xs → AreCounts ys
    → ((x y : (ℕ × ℕ) × ℕ) → Among x xs → Among y ys → precedes_pair x.0 y.0 ≡ true) → AreCounts (xs ++ ys)
AreCounts-append [] ys c d before = d
AreCounts-append (x ∷ xs) ys c d before =
    (c.0, ComesFirst-append x.0 xs ys c.1 (ComesFirst-from x.0 ys (λ y m. before x y (inl refl) m)), AreCounts-append xs ys c.2 d (λ z y m n. before z y (inr m) n))

from_row : {P : Type 0} (rule : ℕ → ℕ → ℕ) (rights : List ℕ) (a : ℕ) (x : (ℕ × ℕ) × ℕ) → Among x (row_of rule rights a)
    → ((b : ℕ) → Among b rights → ◌≡◌ {A = (ℕ × ℕ) × ℕ} ((a, b), rule a b) x → P) → P
from_row rule rights a x m k =
    by_map (λ b. ((a, b), rule a b)) (filter (λ b. nat_lt 0 (rule a b)) rights) x m
    (λ b there same. by_filter (λ n. nat_lt 0 (rule a n)) rights b there (λ among passes. k b among same))

in_row : (a b c : ℕ) → b < c → precedes_pair (a, b) (a, c) ≡ true
in_row a b c h = cond-true (a == a) (nat_lt b c) (nat_lt a a) (eq-eqb a a refl) ∙ lt-ltb b c h

below_row : (a b c d : ℕ) → a < c → precedes_pair (a, b) (c, d) ≡ true
below_row a b c d h = grind (arith, common_steps)

AreCounts-row : (rule : ℕ → ℕ → ℕ) (a : ℕ) (rights : List ℕ) → Ascends rights → AreCounts (row_of rule rights a)
AreCounts-row rule a [] asc = tt
AreCounts-row rule a (b ∷ rights) asc = by (nat_lt 0 (rule a b)) refl (AreCounts-row rule a rights asc.1)
  where
    passing : List ℕ
    passing = filter (λ n. nat_lt 0 (rule a n)) rights

    by : (k : Bool) → nat_lt 0 (rule a b) ≡ k → AreCounts (row_of rule rights a) → AreCounts (map (λ n. ((a, n), rule a n)) (cond k (b ∷ passing) passing))
    by true is rest = (
      ltb-true 0 (rule a b) is,
      ComesFirst-from (a, b) (row_of rule rights a) (λ x m. from_row rule rights a x m (λ c there same.
          subst (λ (y : (ℕ × ℕ) × ℕ). precedes_pair (a, b) y.0 ≡ true) same (in_row a b c (asc.0 c there)))),
      rest,
    )
    by false is rest = rest

pub AreCounts-table : (rule : ℕ → ℕ → ℕ) (rights : List ℕ) → Ascends rights → (lefts : List ℕ) → Ascends lefts → AreCounts (grant_table rule lefts rights)
AreCounts-table rule rights rises [] asc = tt
AreCounts-table rule rights rises (a ∷ lefts) asc =
    AreCounts-append (row_of rule rights a) (grant_table rule lefts rights) (AreCounts-row rule a rights rises) (AreCounts-table rule rights rises lefts asc.1)
    (λ x y m n. from_row rule rights a x m (λ b there same. by_flat_map (row_of rule rights) lefts y n (λ c among in_it. from_row rule rights c y in_it (λ d here alike.
    subst (λ (z : (ℕ × ℕ) × ℕ). precedes_pair z.0 y.0 ≡ true) same
    (subst (λ (z : (ℕ × ℕ) × ℕ). precedes_pair (a, b) z.0 ≡ true) alike (below_row a b c d (asc.0 c among)))))))
