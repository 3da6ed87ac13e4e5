-- Laws of counts kept in rows: the count of a pair is told by its row, the pairs ascend, and how many there are.
use Rattle.std.proofs.Common.{◌≡◌, ℕ, zero, suc, ◌+◌, ◌<◌, ◌==◌, nat_lt, ◌&&◌, Bool, true, false, cond, List, [], ◌∷◌, ◌++◌, length, get_or, set, refl, sym, ◌∙◌, ap, subst, arith, eqb-true, eq-eqb, length-append}
use Rattle.std.specs.List.{insert, remove, AllByRecursion}
use Rattle.std.proofs.lemmas.List.{length-map}
use Rattle.std.proofs.lemmas.Bool.{cond-false, ne_eqb}
use Rattle.std.proofs.lemmas.Bool.Decides.{nat_tests}
use Rattle.std.proofs.lemmas.Grind.{common_steps}
use Rattle.grant_denorm.specs.PairCounts.{same_pair, count_of, ComesFirst, AreCounts, Raises, Lowers}
use Rattle.grant_denorm.specs.FlatRows.{value_at, IsBelowAll, NumbersAscend, IsRow, AreRows, count_in, row_at, pairs_of_row, pairs_of, RaisesIn, LowersIn}

-- ---- the count of a pair

count_of_row : (l : ℕ) (xs : List (ℕ × ℕ)) (rest : List ((ℕ × ℕ) × ℕ)) (a b : ℕ) → count_of (pairs_of_row (l, xs) ++ rest) a b ≡ cond (l == a) (value_at (count_of rest a b) xs b) (count_of rest a b)
count_of_row l [] rest a b = same (l == a) (count_of rest a b)
  where
    same : (t : Bool) (n : ℕ) → n ≡ cond t n n
    same true n = refl
    same false n = refl
count_of_row l (x ∷ xs) rest a b = first (l == a) (x.0 == b) x.1 (count_of (pairs_of_row (l, xs) ++ rest) a b) (value_at (count_of rest a b) xs b) (count_of rest a b) (count_of_row l xs rest a b)
  where
    first : (s t : Bool) (n m u v : ℕ) → m ≡ cond s u v → cond (s && t) n m ≡ cond s (cond t n u) v
    first true true n m u v e = refl
    first true false n m u v e = e
    first false t n m u v e = e

none_below : (rows : List (ℕ × List (ℕ × ℕ))) (a b : ℕ) → IsBelowAll a rows → count_of (pairs_of rows) a b ≡ 0
none_below [] a b h = refl
none_below (r ∷ rows) a b h =
    count_of_row r.0 r.1 (pairs_of rows) a b
    ∙ cond-false (r.0 == a) (value_at (count_of (pairs_of rows) a b) r.1 b) (count_of (pairs_of rows) a b) (ne_eqb r.0 a (λ e. let l = h.0 in omega (arith, l, e)))
    ∙ none_below rows a b h.1

pub count_of_pairs : (rows : List (ℕ × List (ℕ × ℕ))) → NumbersAscend rows → (a b : ℕ) → count_of (pairs_of rows) a b ≡ count_in (row_at rows a) b
count_of_pairs [] c a b = refl
count_of_pairs (r ∷ rows) c a b = count_of_row r.0 r.1 (pairs_of rows) a b ∙ at (count_of_pairs rows c.1 a b) (r.0 == a) refl
  where
    rest : ℕ
    rest = count_of (pairs_of rows) a b

    at : rest ≡ count_in (row_at rows a) b → (t : Bool) → (r.0 == a) ≡ t → cond t (value_at rest r.1 b) rest ≡ count_in (cond t r.1 (row_at rows a)) b
    at later true e = ap (λ n. value_at n r.1 b) (none_below rows a b (subst (λ m. IsBelowAll m rows) (eqb-true r.0 a e) c.0))
    at later false e = later

-- ---- the pairs ascend, with counts above 0

same_left : (l n : ℕ) (xs : List (ℕ × ℕ)) (rest : List ((ℕ × ℕ) × ℕ)) → IsBelowAll n xs → ComesFirst (l, n) rest → ComesFirst (l, n) (pairs_of_row (l, xs) ++ rest)
same_left l n [] rest b c = c
same_left l n (x ∷ xs) rest b c = (before l n x.0 b.0, same_left l n xs rest b.1 c)
  where
    before : (l n m : ℕ) → n < m → cond (l == l) (nat_lt n m) (nat_lt l l) ≡ true
    before l n m h = grind (arith, common_steps)

later_left : (l n m : ℕ) (xs : List (ℕ × ℕ)) (rest : List ((ℕ × ℕ) × ℕ)) → l < m → ComesFirst (l, n) rest → ComesFirst (l, n) (pairs_of_row (m, xs) ++ rest)
later_left l n m [] rest h c = c
later_left l n m (x ∷ xs) rest h c = (before l n m x.0 h, later_left l n m xs rest h c)
  where
    before : (l n m k : ℕ) → l < m → cond (l == m) (nat_lt n k) (nat_lt l m) ≡ true
    before l n m k h = grind (arith, common_steps)

first_of_rows : (l n : ℕ) (rows : List (ℕ × List (ℕ × ℕ))) → IsBelowAll l rows → ComesFirst (l, n) (pairs_of rows)
first_of_rows l n [] h = tt
first_of_rows l n (r ∷ rows) h = later_left l n r.0 r.1 (pairs_of rows) h.0 (first_of_rows l n rows h.1)

row_first : (l : ℕ) (xs : List (ℕ × ℕ)) (rest : List ((ℕ × ℕ) × ℕ)) → NumbersAscend xs → AllByRecursion (λ (x : ℕ × ℕ). 0 < x.1) xs → AreCounts rest → ((n : ℕ) → ComesFirst (l, n) rest)
    → AreCounts (pairs_of_row (l, xs) ++ rest)
row_first l [] rest a p c f = c
row_first l (x ∷ xs) rest a p c f = (p.0, same_left l x.0 xs rest a.0 (f x.0), row_first l xs rest a.1 p.1 c f)

counts_by_row : (rows : List (ℕ × List (ℕ × ℕ))) → NumbersAscend rows → AllByRecursion (λ (x : ℕ × List (ℕ × ℕ)). IsRow x.1) rows → AreCounts (pairs_of rows)
counts_by_row [] a p = tt
counts_by_row (r ∷ rows) a p = row_first r.0 r.1 (pairs_of rows) p.0.ascends p.0.counts (counts_by_row rows a.1 p.1) (λ n. first_of_rows r.0 n rows a.0)

pub AreCounts_pairs : (rows : List (ℕ × List (ℕ × ℕ))) → AreRows rows → AreCounts (pairs_of rows)
AreCounts_pairs rows r = counts_by_row rows r.ascends r.each

-- ---- how many pairs there are

length_row : (r : ℕ × List (ℕ × ℕ)) (rest : List ((ℕ × ℕ) × ℕ)) → length (pairs_of_row r ++ rest) ≡ length r.1 + length rest
length_row r rest = length-append (pairs_of_row r) rest ∙ ap (λ n. n + length rest) (length-map r.1 (λ (x : ℕ × ℕ). ((r.0, x.0), x.1)))

pub length_set : (rows : List (ℕ × List (ℕ × ℕ))) (i a : ℕ) (row : List (ℕ × ℕ)) → i < length rows
    → length (pairs_of (set rows i (a, row))) + length (get_or rows i (0, [])).1 ≡ length (pairs_of rows) + length row
length_set [] i a row h = absurd (omega (arith, h))
length_set (r ∷ rows) zero a row h = let one = length_row (a, row) (pairs_of rows) in let other = length_row r (pairs_of rows) in omega (arith, one, other)
length_set (r ∷ rows) (suc i) a row h =
    let one = length_row r (pairs_of (set rows i (a, row))) in
    let other = length_row r (pairs_of rows) in
    let rest = length_set rows i a row (omega (arith, h)) in omega (arith, one, other, rest)

pub length_insert : (rows : List (ℕ × List (ℕ × ℕ))) (i a : ℕ) (row : List (ℕ × ℕ)) → length (pairs_of (insert rows i (a, row))) ≡ length (pairs_of rows) + length row
length_insert rows zero a row = let one = length_row (a, row) (pairs_of rows) in omega (arith, one)
length_insert [] (suc i) a row = let one = length_row (a, row) [] in omega (arith, one)
length_insert (r ∷ rows) (suc i) a row =
    let one = length_row r (pairs_of (insert rows i (a, row))) in
    let other = length_row r (pairs_of rows) in
    let rest = length_insert rows i a row in omega (arith, one, other, rest)

-- ---- an empty row has no pairs

pub pairs_without : (rows : List (ℕ × List (ℕ × ℕ))) (i : ℕ) → i < length rows → length (get_or rows i (0, [])).1 ≡ 0 → pairs_of (remove rows i) ≡ pairs_of rows
pairs_without [] i h e = absurd (omega (arith, h))
pairs_without ((a, []) ∷ rows) zero h e = refl
pairs_without ((a, x ∷ xs) ∷ rows) zero h e = absurd (omega (arith, e))
pairs_without (r ∷ rows) (suc i) h e = ap (λ es. pairs_of_row r ++ es) (pairs_without rows i (omega (arith, h)) e)

-- ---- what a change of one row does to the counts

-- one left number has this row, and every other the one that it had
abbrev pub PutsRow : List (ℕ × List (ℕ × ℕ)) → List (ℕ × List (ℕ × ℕ)) → ℕ → List (ℕ × ℕ) → Type 0
PutsRow old new a row = (p : ℕ) → row_at new p ≡ cond (a == p) row (row_at old p)

-- a test of a pair that is turned round
at_pair : (p q a b : ℕ) (t : Bool) → (a == p) ≡ t → same_pair (p, q) (a, b) ≡ (t && (q == b))
at_pair p q a b true e = ap (λ s. s && (q == b)) (eq-eqb p a (sym (eqb-true a p e)))
at_pair p q a b false e = grind (arith, nat_tests, common_steps)

pub Raises_row : (old new : List (ℕ × List (ℕ × ℕ))) (a b : ℕ) (row : List (ℕ × ℕ)) → NumbersAscend old → NumbersAscend new → PutsRow old new a row → RaisesIn (row_at old a) row b
    → Raises (pairs_of old) (pairs_of new) a b
Raises_row old new a b row s t puts raises p q =
    count_of_pairs new t p q ∙ ap (λ r. count_in r q) (puts p) ∙ at (a == p) refl ∙ sym (ap (λ n. n + cond (same_pair (p, q) (a, b)) 1 0) (count_of_pairs old s p q))
  where
    at : (u : Bool) → (a == p) ≡ u → count_in (cond u row (row_at old p)) q ≡ count_in (row_at old p) q + cond (same_pair (p, q) (a, b)) 1 0
    at true e =
        subst (λ m. count_in row q ≡ count_in (row_at old m) q + cond (q == b) 1 0) (eqb-true a p e) (raises q)
        ∙ ap (λ u. count_in (row_at old p) q + cond u 1 0) (sym (at_pair p q a b true e))
    at false e = plain (count_in (row_at old p) q) ∙ ap (λ u. count_in (row_at old p) q + cond u 1 0) (sym (at_pair p q a b false e))
      where
        plain : (n : ℕ) → n ≡ n + 0
        plain n = omega arith

pub Lowers_row : (old new : List (ℕ × List (ℕ × ℕ))) (a b : ℕ) (row : List (ℕ × ℕ)) → NumbersAscend old → NumbersAscend new → PutsRow old new a row → LowersIn (row_at old a) row b
    → Lowers (pairs_of old) (pairs_of new) a b
Lowers_row old new a b row s t puts lowers p q =
    ap (λ n. n + cond (same_pair (p, q) (a, b)) 1 0) (count_of_pairs new t p q ∙ ap (λ r. count_in r q) (puts p)) ∙ at (a == p) refl ∙ sym (count_of_pairs old s p q)
  where
    at : (u : Bool) → (a == p) ≡ u → count_in (cond u row (row_at old p)) q + cond (same_pair (p, q) (a, b)) 1 0 ≡ count_in (row_at old p) q
    at true e =
        ap (λ u. count_in row q + cond u 1 0) (at_pair p q a b true e)
        ∙ subst (λ m. count_in row q + cond (q == b) 1 0 ≡ count_in (row_at old m) q) (eqb-true a p e) (lowers q)
    at false e = ap (λ u. count_in (row_at old p) q + cond u 1 0) (at_pair p q a b false e) ∙ plain (count_in (row_at old p) q)
      where
        plain : (n : ℕ) → n + 0 ≡ n
        plain n = omega arith
