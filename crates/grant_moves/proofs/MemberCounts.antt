-- A member of a side stands once among its members, where the numbers of the entities ascend.
use Rattle.std.proofs.Common.{◌≡◌, ℕ, ◌+◌, ◌<◌, ◌==◌, Bool, true, false, not, cond, ◌||◌, Option, None, Some, List, [], ◌∷◌, refl, sym, ◌∙◌, ap, ap₂, arith, eqb-true, filter}
use Rattle.std.proofs.lemmas.Grind.{common_steps}
use Rattle.std.proofs.lemmas.List.Sums.{sum_by-cons}
use Rattle.std.specs.List.{count_by}
use Rattle.std.specs.Option.{option_map_or}
use Rattle.ctrl_model.specs.Numbered.{at, without, numbers, Between}
use Rattle.ctrl_model.specs.Walks.{is_among}
use Rattle.ctrl_model.proofs.NumberedLaws.{at-below}

-- whether a record that may be absent passes
abbrev pub passes_if : {R : Type 0} → (R → Bool) → Option R → Bool
passes_if test o = option_map_or test o false

-- the numbers of those that pass
abbrev pub passing : {R : Type 0} → (R → Bool) → List (ℕ × R) → List ℕ
passing test rows = numbers (filter (λ row. test row.1) rows)

above : (m n : ℕ) → m ≡ n → n < m + 1
above m n e = omega arith

pub counted_once : {R : Type 0} (test : R → Bool) (n high : ℕ) (rows : List (ℕ × R)) (low : ℕ) → Between low high rows
    → count_by (λ m. n == m) (passing test rows) ≡ cond (passes_if test (at rows n)) 1 0
counted_once test n high [] low b = refl
counted_once {R = R} test n high (x ∷ rows) low b =
    by (test x.1) (x.0 == n) refl refl (counted_once test n high rows (x.0 + 1) b.2)
    (λ is. at-below high rows (x.0 + 1) n b.2 (above x.0 n (eqb-true x.0 n is)))
  where
    same_way : (m n : ℕ) → (m == n) ≡ (n == m)
    same_way m n = grind (arith, common_steps)

    by : (t c : Bool) → test x.1 ≡ t → (x.0 == n) ≡ c → count_by (λ m. n == m) (passing test rows) ≡ cond (passes_if test (at rows n)) 1 0
        → (c ≡ true → at rows n ≡ None)
        → count_by (λ m. n == m) (numbers (cond t (x ∷ filter (λ (row : ℕ × R). test row.1) rows) (filter (λ (row : ℕ × R). test row.1) rows)))
        ≡ cond (passes_if test (cond c (Some x.1) (at rows n))) 1 0
    by true true passes is rest none =
        sum_by-cons (λ m. cond (n == m) 1 0) x.0 (passing test rows) ∙ ap₂ (λ s k. cond s 1 0 + k) (same_way n x.0 ∙ is) (rest ∙ ap (λ o. cond (passes_if test o) 1 0) (none refl))
        ∙ sym (ap (λ s. cond s 1 0) passes)
    by true false passes is rest none =
        sum_by-cons (λ m. cond (n == m) 1 0) x.0 (passing test rows) ∙ ap (λ s. cond s 1 0 + count_by (λ m. n == m) (passing test rows)) (same_way n x.0 ∙ is)
        ∙ plain (count_by (λ m. n == m) (passing test rows)) ∙ rest
      where
        plain : (k : ℕ) → 0 + k ≡ k
        plain k = omega arith
    by false true fails is rest none = rest ∙ ap (λ o. cond (passes_if test o) 1 0) (none refl) ∙ sym (ap (λ s. cond s 1 0) fails)
    by false false fails is rest none = rest

-- whether a number is among those that pass
pub members_among : {R : Type 0} (test : R → Bool) (n high : ℕ) (rows : List (ℕ × R)) (low : ℕ) → Between low high rows
    → is_among n (passing test rows) ≡ passes_if test (at rows n)
members_among test n high [] low b = refl
members_among {R = R} test n high (x ∷ rows) low b =
    by (test x.1) (x.0 == n) refl refl (members_among test n high rows (x.0 + 1) b.2) (λ is. at-below high rows (x.0 + 1) n b.2 (above x.0 n (eqb-true x.0 n is)))
  where
    by : (t c : Bool) → test x.1 ≡ t → (x.0 == n) ≡ c → is_among n (passing test rows) ≡ passes_if test (at rows n) → (c ≡ true → at rows n ≡ None)
        → is_among n (numbers (cond t (x ∷ filter (λ (row : ℕ × R). test row.1) rows) (filter (λ (row : ℕ × R). test row.1) rows)))
        ≡ passes_if test (cond c (Some x.1) (at rows n))
    by true true passes is rest none = ap (λ s. s || is_among n (passing test rows)) is ∙ sym passes
    by true false passes is rest none = ap (λ s. s || is_among n (passing test rows)) is ∙ rest
    by false true fails is rest none = rest ∙ ap (λ o. passes_if test o) (none refl) ∙ sym fails
    by false false fails is rest none = rest

-- of those that pass, one number's is counted beside the others
pub counted_beside : {R : Type 0} (test : R → Bool) (n high : ℕ) (rows : List (ℕ × R)) (low : ℕ) → Between low high rows
    → count_by (λ row. test row.1) (without rows n) + cond (passes_if test (at rows n)) 1 0 ≡ count_by (λ row. test row.1) rows
counted_beside test n high [] low b = refl
counted_beside {R = R} test n high (x ∷ rows) low b =
    by (x.0 == n) (counted_beside test n high rows (x.0 + 1) b.2) (λ is. at-below high rows (x.0 + 1) n b.2 (above x.0 n (eqb-true x.0 n is))) refl
    ∙ sym (sum_by-cons (λ (row : ℕ × R). cond (test row.1) 1 0) x rows)
  where
    counted : List (ℕ × R) → ℕ
    counted some_rows = count_by (λ (row : ℕ × R). test row.1) some_rows

    first : (k m one own : ℕ) → k + own ≡ m → own ≡ 0 → k + one ≡ one + m
    first k m one own e f = omega arith

    later : (j k m one own : ℕ) → k + own ≡ m → j ≡ one + k → j + own ≡ one + m
    later j k m one own e f = omega arith

    by : (c : Bool) → counted (without rows n) + cond (passes_if test (at rows n)) 1 0 ≡ counted rows → (c ≡ true → at rows n ≡ None) → (x.0 == n) ≡ c
        → counted (cond (not c) (x ∷ without rows n) (without rows n)) + cond (passes_if test (cond c (Some x.1) (at rows n))) 1 0 ≡ cond (test x.1) 1 0 + counted rows
    by true rest none is = first (counted (without rows n)) (counted rows) (cond (test x.1) 1 0) (cond (passes_if test (at rows n)) 1 0) rest (ap (λ o. cond (passes_if test o) 1 0) (none refl))
    by false rest none is =
        later (counted (x ∷ without rows n)) (counted (without rows n)) (counted rows) (cond (test x.1) 1 0) (cond (passes_if test (at rows n)) 1 0) rest
        (sum_by-cons (λ (row : ℕ × R). cond (test row.1) 1 0) x (without rows n))
