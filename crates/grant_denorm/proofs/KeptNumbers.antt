-- The numbers of a list by ascending number at which something holds.
use Rattle.std.proofs.Common.{◌≡◌, ℕ, ◌<◌, ◌==◌, nat_lt, Bool, true, false, cond, List, [], ◌∷◌, map, filter, inl, inr, refl, sym, ◌∙◌, ap, subst, arith, eqb-true, eq-eqb}
use Rattle.std.specs.List.{AllByRecursion}
use Rattle.std.proofs.lemmas.Bool.{cond-true, cond-false, false≢true, lt-ltb, ne_eqb}
use Rattle.ctrl_model.specs.Membership.{Among}
use Rattle.grant_denorm.specs.PairCounts.{count_of, Ascends, AreThose}
use Rattle.grant_denorm.specs.FlatRows.{value_at, IsBelowAll, NumbersAscend, AreRows, count_in, row_at, pairs_of}
use Rattle.grant_denorm.proofs.FlatCounts.{count_of_pairs}
use Rattle.grant_denorm.proofs.RowSteps.{is_row}

abbrev pub kept : {V : Type 0} → (V → Bool) → List (ℕ × V) → List ℕ
kept {V} t xs = map (λ (x : ℕ × V). x.0) (filter (λ (x : ℕ × V). t x.1) xs)

below_kept : {V : Type 0} (t : V → Bool) (m : ℕ) (xs : List (ℕ × V)) → IsBelowAll m xs → (n : ℕ) → Among n (kept t xs) → m < n
below_kept t m [] b n a = absurd a
below_kept {V} t m (x ∷ xs) b n a = at (below_kept t m xs b.1 n) (t x.1) a
  where
    at : (Among n (kept t xs) → m < n) → (u : Bool) → Among n (map (λ (y : ℕ × V). y.0) (cond u (x ∷ filter (λ (y : ℕ × V). t y.1) xs) (filter (λ (y : ℕ × V). t y.1) xs))) → m < n
    at later true (inl e) = subst (λ k. m < k) e b.0
    at later true (inr h) = later h
    at later false h = later h

Ascends_kept : {V : Type 0} (t : V → Bool) (xs : List (ℕ × V)) → NumbersAscend xs → Ascends (kept t xs)
Ascends_kept t [] a = tt
Ascends_kept {V} t (x ∷ xs) a = at (Ascends_kept t xs a.1) (t x.1)
  where
    at : Ascends (kept t xs) → (u : Bool) → Ascends (map (λ (y : ℕ × V). y.0) (cond u (x ∷ filter (λ (y : ℕ × V). t y.1) xs) (filter (λ (y : ℕ × V). t y.1) xs)))
    at later true = (λ n h. below_kept t x.0 xs a.0 n h, later)
    at later false = later

each_kept : {V : Type 0} (none : V) (t : V → Bool) (xs : List (ℕ × V)) → NumbersAscend xs → (n : ℕ) → Among n (kept t xs) → t (value_at none xs n) ≡ true
each_kept none t [] a n h = absurd h
each_kept {V} none t (x ∷ xs) a n h = at (λ m. later m (each_kept none t xs a.1 n m)) (t x.1) refl h
  where
    later : Among n (kept t xs) → t (value_at none xs n) ≡ true → t (value_at none (x ∷ xs) n) ≡ true
    later h again = ap t (cond-false (x.0 == n) x.1 (value_at none xs n) (ne_eqb x.0 n (λ e. let l = below_kept t x.0 xs a.0 n h in omega (arith, l, e)))) ∙ again

    at : (Among n (kept t xs) → t (value_at none (x ∷ xs) n) ≡ true) → (u : Bool) → t x.1 ≡ u → Among n (map (λ (y : ℕ × V). y.0) (cond u (x ∷ filter (λ (y : ℕ × V). t y.1) xs) (filter (λ (y : ℕ × V). t y.1) xs))) → t (value_at none (x ∷ xs) n) ≡ true
    at past true is (inl e) = ap t (cond-true (x.0 == n) x.1 (value_at none xs n) (eq-eqb x.0 n e)) ∙ is
    at past true is (inr h) = past h
    at past false is h = past h

every_kept : {V : Type 0} (none : V) (t : V → Bool) → t none ≡ false → (xs : List (ℕ × V)) (n : ℕ) → t (value_at none xs n) ≡ true → Among n (kept t xs)
every_kept none t f [] n h = absurd (false≢true (sym f ∙ h))
every_kept {V} none t f (x ∷ xs) n h = at (every_kept none t f xs n) (x.0 == n) refl (t x.1) refl h
  where
    at : (t (value_at none xs n) ≡ true → Among n (kept t xs)) → (s : Bool) → (x.0 == n) ≡ s → (u : Bool) → t x.1 ≡ u → t (cond s x.1 (value_at none xs n)) ≡ true
        → Among n (map (λ (y : ℕ × V). y.0) (cond u (x ∷ filter (λ (y : ℕ × V). t y.1) xs) (filter (λ (y : ℕ × V). t y.1) xs)))
    at later true e true is h = inl (eqb-true x.0 n e)
    at later true e false is h = absurd (false≢true (sym is ∙ h))
    at later false e true is h = inr (later h)
    at later false e false is h = later h

pub AreThose_kept : {V : Type 0} (none : V) (t : V → Bool) → t none ≡ false → (xs : List (ℕ × V)) → NumbersAscend xs → AreThose (λ n. t (value_at none xs n)) (kept t xs)
AreThose_kept none t f xs a = record { ascending = Ascends_kept t xs a; each = each_kept none t xs a; every = every_kept none t f xs }

-- ---- rows and columns

all_kept : (xs : List (ℕ × ℕ)) → AllByRecursion (λ (x : ℕ × ℕ). 0 < x.1) xs → filter (λ (x : ℕ × ℕ). nat_lt 0 x.1) xs ≡ xs
all_kept [] a = refl
all_kept (x ∷ xs) a =
    cond-true (nat_lt 0 x.1) (x ∷ filter (λ (y : ℕ × ℕ). nat_lt 0 y.1) xs) (filter (λ (y : ℕ × ℕ). nat_lt 0 y.1) xs) (lt-ltb 0 x.1 a.0) ∙ ap (λ ys. x ∷ ys) (all_kept xs a.1)

told : (holds other : ℕ → Bool) (ns : List ℕ) → ((n : ℕ) → other n ≡ holds n) → AreThose holds ns → AreThose other ns
told holds other ns e those = record { ascending = those.ascending; each = λ n a. e n ∙ those.each n a; every = λ n h. those.every n (sym (e n) ∙ h) }

pub AreThose_row : (rows : List (ℕ × List (ℕ × ℕ))) → AreRows rows → (a : ℕ) → AreThose (λ b. nat_lt 0 (count_of (pairs_of rows) a b)) (map (λ (x : ℕ × ℕ). x.0) (row_at rows a))
AreThose_row rows r a =
    let row = is_row rows r.each a in
    told (λ b. nat_lt 0 (count_in (row_at rows a) b)) (λ b. nat_lt 0 (count_of (pairs_of rows) a b)) (map (λ (x : ℕ × ℕ). x.0) (row_at rows a))
    (λ b. ap (nat_lt 0) (count_of_pairs rows r.ascends a b))
    (subst (λ ys. AreThose (λ b. nat_lt 0 (count_in (row_at rows a) b)) (map (λ (x : ℕ × ℕ). x.0) ys)) (all_kept (row_at rows a) row.counts) (AreThose_kept 0 (nat_lt 0) refl (row_at rows a) row.ascends))

pub AreThose_column : (rows : List (ℕ × List (ℕ × ℕ))) → AreRows rows → (b : ℕ) → AreThose (λ a. nat_lt 0 (count_of (pairs_of rows) a b)) (kept (λ row. nat_lt 0 (count_in row b)) rows)
AreThose_column rows r b =
    told (λ a. nat_lt 0 (count_in (row_at rows a) b)) (λ a. nat_lt 0 (count_of (pairs_of rows) a b)) (kept (λ row. nat_lt 0 (count_in row b)) rows)
    (λ a. ap (nat_lt 0) (count_of_pairs rows r.ascends a b)) (AreThose_kept [] (λ row. nat_lt 0 (count_in row b)) refl rows r.ascends)
