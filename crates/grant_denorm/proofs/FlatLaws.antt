-- Laws of lists by ascending number: what stands at a number, and what a write, an insertion and a removal do to it.
use Rattle.std.proofs.Common.{◌≡◌, ℕ, zero, suc, ◌-◌, ◌<◌, ◌≤◌, ◌==◌, ◌≢◌, ◌⊎◌, Bool, true, false, cond, List, [], ◌∷◌, length, get_or, set, Result, Ok, Err, IfOk, IfErr, inl, inr, refl, sym, ◌∙◌, ap, subst, arith, eq-eqb}
use Rattle.std.specs.List.{insert, remove, AllByRecursion}
use Rattle.std.specs.List.Sorted.{IsSearchInRange, IsBinarySearchResult, IsNonDecreasingBy}
use Rattle.std.specs.Ordering.{nat_cmp, ordering_index}
use Rattle.std.proofs.lemmas.Cmp.{ranked}
use Rattle.std.proofs.lemmas.List.{get_or_default}
use Rattle.std.proofs.lemmas.List.Sorted.{IsNonDecreasingBy-from_default}
use Rattle.std.proofs.lemmas.Bool.{cond-true, cond-false, ne_eqb, cases_order}
use Rattle.std.proofs.lemmas.Bool.Decides.{nat_tests}
use Rattle.grant_denorm.specs.FlatRows.{value_at, IsBelowAll, NumbersAscend, number_at, StandsAt, WouldStandAt}

-- ---- the numbers by place

pub below_at : {V : Type 0} (none : V) (n : ℕ) (xs : List (ℕ × V)) → IsBelowAll n xs → (i : ℕ) → i < length xs → n < number_at none xs i
below_at none n [] b i h = absurd (omega arith)
below_at none n (x ∷ xs) b zero h = b.0
below_at none n (x ∷ xs) b (suc i) h = below_at none n xs b.1 i (omega arith)

below_from : {V : Type 0} (none : V) (n : ℕ) (xs : List (ℕ × V)) → ((i : ℕ) → i < length xs → n < number_at none xs i) → IsBelowAll n xs
below_from none n [] f = tt
below_from none n (x ∷ xs) f = (f 0 (omega arith), below_from none n xs (λ i h. f (suc i) (omega arith)))

ascends_at : {V : Type 0} (none : V) (xs : List (ℕ × V)) → NumbersAscend xs → (i j : ℕ) → i < j → j < length xs → number_at none xs i < number_at none xs j
ascends_at none [] a i j l h = absurd (omega arith)
ascends_at none (x ∷ xs) a i zero l h = absurd (omega arith)
ascends_at none (x ∷ xs) a zero (suc j) l h = below_at none x.0 xs a.0 j (omega arith)
ascends_at none (x ∷ xs) a (suc i) (suc j) l h = ascends_at none xs a.1 i j (omega arith) (omega arith)

-- ---- where a number is found

comparisons_rise : {V : Type 0} (none : V) (xs : List (ℕ × V)) → NumbersAscend xs → (n : ℕ) → IsNonDecreasingBy (λ x. ordering_index (nat_cmp x.0 n)) xs
comparisons_rise none xs a n = IsNonDecreasingBy-from_default (λ x. ordering_index (nat_cmp x.0 n)) xs (0, none) (λ i j le in_range.
    let rise : number_at none xs i ≤ number_at none xs j = grind (arith, ascends_at none xs a i j, λ (same : i ≡ j). ap (number_at none xs) same) in
    grind (arith, nat_tests))

pub searched : {V : Type 0} (none : V) (xs : List (ℕ × V)) → NumbersAscend xs → (n : ℕ) (r : Result ℕ ℕ) → IsSearchInRange r (length xs) → IsBinarySearchResult (λ x. nat_cmp x.0 n) xs r
    → record { found : IfOk r (StandsAt none xs n); absent : IfErr r (WouldStandAt none xs n) }
searched none xs a n (Ok i) in_range equal = record { found = record { in_range = in_range; is_it = ranked _ n _ (sym (equal (0, none))) }; absent = tt }
searched none xs a n (Err i) in_range parted = record {
  found = tt;
  absent = record {
    in_range = in_range;
    smaller_before = λ j l. ranked _ n _ (sym ((parted (comparisons_rise none xs a n)).0 j (0, none) (omega arith) l));
    greater_after = λ j le l. ranked _ n _ (sym ((parted (comparisons_rise none xs a n)).1 j (0, none) le l));
  };
}

pub behind_last : {V : Type 0} (none : V) (xs : List (ℕ × V)) → NumbersAscend xs → (n : ℕ) → number_at none xs (length xs - 1) < n → WouldStandAt none xs n (length xs)
behind_last none xs a n h = record {
  in_range = omega arith;
  smaller_before = λ j l. by j l (cases_order j (length xs - 1));
  greater_after = λ j le l. absurd (omega (arith, le, l));
}
  where
    by : (j : ℕ) → j < length xs → (j ≡ length xs - 1) ⊎ ((j < length xs - 1) ⊎ (length xs - 1 < j)) → number_at none xs j < n
    by j l (inl e) = rw e h
    by j l (inr (inl b)) = let up = ascends_at none xs a j (length xs - 1) b (omega (arith, l)) in omega (arith, up, h)
    by j l (inr (inr b)) = absurd (omega (arith, l, b))

-- ---- what stands at a number

value_unless : {V : Type 0} (none : V) (xs : List (ℕ × V)) (n : ℕ) → ((i : ℕ) → i < length xs → number_at none xs i ≢ n) → value_at none xs n ≡ none
value_unless none [] n f = refl
value_unless none (x ∷ xs) n f =
    cond-false (x.0 == n) x.1 (value_at none xs n) (ne_eqb x.0 n (f 0 (omega arith))) ∙ value_unless none xs n (λ i h. f (suc i) (omega arith))

pub value_absent : {V : Type 0} (none : V) (xs : List (ℕ × V)) (n i : ℕ) → WouldStandAt none xs n i → value_at none xs n ≡ none
value_absent none xs n i w = value_unless none xs n (λ j h e. grind (arith, w.smaller_before j, w.greater_after j))

tail_stands : {V : Type 0} (none : V) (x : ℕ × V) (xs : List (ℕ × V)) (n i : ℕ) → StandsAt none (x ∷ xs) n (suc i) → StandsAt none xs n i
tail_stands none x xs n i s = record { in_range = omega (arith, s.in_range); is_it = s.is_it }

head_below : {V : Type 0} (none : V) (x : ℕ × V) (xs : List (ℕ × V)) (n i : ℕ) → NumbersAscend (x ∷ xs) → StandsAt none xs n i → x.0 < n
head_below none x xs n i a s = subst (λ m. x.0 < m) s.is_it (below_at none x.0 xs a.0 i s.in_range)

tail_would : {V : Type 0} (none : V) (x : ℕ × V) (xs : List (ℕ × V)) (n i : ℕ) → WouldStandAt none (x ∷ xs) n (suc i) → WouldStandAt none xs n i
tail_would none x xs n i w = record {
  in_range = omega (arith, w.in_range);
  smaller_before = λ j l. w.smaller_before (suc j) (omega (arith, l));
  greater_after = λ j le l. w.greater_after (suc j) (omega (arith, le)) (omega (arith, l));
}

pub value_found : {V : Type 0} (none : V) (xs : List (ℕ × V)) → NumbersAscend xs → (n i : ℕ) → StandsAt none xs n i → value_at none xs n ≡ (get_or xs i (0, none)).1
value_found none [] a n i s = absurd (omega (arith, s.in_range))
value_found none (x ∷ xs) a n zero s = cond-true (x.0 == n) x.1 (value_at none xs n) (eq-eqb x.0 n s.is_it)
value_found none (x ∷ xs) a n (suc i) s =
    let t = tail_stands none x xs n i s in
    let l = head_below none x xs n i a t in
    cond-false (x.0 == n) x.1 (value_at none xs n) (ne_eqb x.0 n (λ e. omega (arith, l, e))) ∙ value_found none xs a.1 n i t

-- the entry that is read at a place
pub value_read : {V : Type 0} (none : V) (xs : List (ℕ × V)) → NumbersAscend xs → (n i : ℕ) → StandsAt none xs n i → (x : ℕ × V) → x ≡ get_or xs i x → value_at none xs n ≡ x.1
value_read none xs a n i s x e = value_found none xs a n i s ∙ ap (λ y. y.1) (sym (e ∙ get_or_default xs i x (0, none) s.in_range))

pub number_read : {V : Type 0} (none : V) (xs : List (ℕ × V)) (n i : ℕ) → StandsAt none xs n i → (x : ℕ × V) → x ≡ get_or xs i x → x.0 ≡ n
number_read none xs n i s x e = ap (λ y. y.0) (e ∙ get_or_default xs i x (0, none) s.in_range) ∙ s.is_it

-- one entry before another pair of entries: the first number is not the written one
passed : {V : Type 0} (m n q : ℕ) (u v w z : V) → m < n → w ≡ cond (n == q) v z → cond (m == q) u w ≡ cond (n == q) v (cond (m == q) u z)
passed m n q u v w z l e = at (m == q) (n == q) refl refl e
  where
    at : (s t : Bool) → (m == q) ≡ s → (n == q) ≡ t → w ≡ cond t v z → cond s u w ≡ cond t v (cond s u z)
    at true true f g e = absurd (grind (arith, nat_tests))
    at true false f g e = refl
    at false true f g e = e
    at false false f g e = e

-- the first entry is the written one
written : {V : Type 0} (m n q : ℕ) (u v z : V) → m ≡ n → cond (n == q) v z ≡ cond (n == q) v (cond (m == q) u z)
written m n q u v z e = rw e (at (n == q))
  where
    at : (t : Bool) → cond t v z ≡ cond t v (cond t u z)
    at true = refl
    at false = refl

pub value_set : {V : Type 0} (none : V) (xs : List (ℕ × V)) → NumbersAscend xs → (n i : ℕ) → StandsAt none xs n i → (v : V) (q : ℕ) → value_at none (set xs i (n, v)) q ≡ cond (n == q) v (value_at none xs q)
value_set none [] a n i s v q = absurd (omega (arith, s.in_range))
value_set none (x ∷ xs) a n zero s v q = written x.0 n q x.1 v (value_at none xs q) s.is_it
value_set none (x ∷ xs) a n (suc i) s v q =
    let t = tail_stands none x xs n i s in
    passed x.0 n q x.1 v (value_at none (set xs i (n, v)) q) (value_at none xs q) (head_below none x xs n i a t) (value_set none xs a.1 n i t v q)

pub value_insert : {V : Type 0} (none : V) (xs : List (ℕ × V)) (n i : ℕ) → WouldStandAt none xs n i → (v : V) (q : ℕ) → value_at none (insert xs i (n, v)) q ≡ cond (n == q) v (value_at none xs q)
value_insert none xs n zero w v q = refl
value_insert none [] n (suc i) w v q = absurd (omega (arith, w.in_range))
value_insert none (x ∷ xs) n (suc i) w v q =
    passed x.0 n q x.1 v (value_at none (insert xs i (n, v)) q) (value_at none xs q) (w.smaller_before 0 (omega arith)) (value_insert none xs n i (tail_would none x xs n i w) v q)

pub value_remove : {V : Type 0} (none : V) (xs : List (ℕ × V)) → NumbersAscend xs → (n i : ℕ) → StandsAt none xs n i → (q : ℕ) → value_at none (remove xs i) q ≡ cond (n == q) none (value_at none xs q)
value_remove none [] a n i s q = absurd (omega (arith, s.in_range))
value_remove none (x ∷ xs) a n zero s q = at (n == q) refl
  where
    gone : (n == q) ≡ true → value_at none xs q ≡ none
    gone e = value_unless none xs q (λ j h f. let l = below_at none x.0 xs a.0 j h in absurd (grind (arith, nat_tests, s.is_it)))

    at : (t : Bool) → (n == q) ≡ t → value_at none xs q ≡ cond t none (cond (x.0 == q) x.1 (value_at none xs q))
    at true e = gone e
    at false e = sym (cond-false (x.0 == q) x.1 (value_at none xs q) (subst (λ m. (m == q) ≡ false) (sym s.is_it) e))
value_remove none (x ∷ xs) a n (suc i) s q =
    let t = tail_stands none x xs n i s in
    passed x.0 n q x.1 none (value_at none (remove xs i) q) (value_at none xs q) (head_below none x xs n i a t) (value_remove none xs a.1 n i t q)

-- ---- the numbers still ascend

below_set : {V : Type 0} (m : ℕ) (xs : List (ℕ × V)) (i n : ℕ) (v : V) → IsBelowAll m xs → m < n → IsBelowAll m (set xs i (n, v))
below_set m [] i n v b l = tt
below_set m (x ∷ xs) zero n v b l = (l, b.1)
below_set m (x ∷ xs) (suc i) n v b l = (b.0, below_set m xs i n v b.1 l)

below_insert : {V : Type 0} (m : ℕ) (xs : List (ℕ × V)) (i n : ℕ) (v : V) → IsBelowAll m xs → m < n → IsBelowAll m (insert xs i (n, v))
below_insert m xs zero n v b l = (l, b)
below_insert m [] (suc i) n v b l = (l, tt)
below_insert m (x ∷ xs) (suc i) n v b l = (b.0, below_insert m xs i n v b.1 l)

below_remove : {V : Type 0} (m : ℕ) (xs : List (ℕ × V)) (i : ℕ) → IsBelowAll m xs → IsBelowAll m (remove xs i)
below_remove m [] zero b = tt
below_remove m [] (suc i) b = tt
below_remove m (x ∷ xs) zero b = b.1
below_remove m (x ∷ xs) (suc i) b = (b.0, below_remove m xs i b.1)

pub ascends_set : {V : Type 0} (none : V) (xs : List (ℕ × V)) → NumbersAscend xs → (n i : ℕ) → StandsAt none xs n i → (v : V) → NumbersAscend (set xs i (n, v))
ascends_set none [] a n i s v = absurd (omega (arith, s.in_range))
ascends_set none (x ∷ xs) a n zero s v = (subst (λ m. IsBelowAll m xs) s.is_it a.0, a.1)
ascends_set none (x ∷ xs) a n (suc i) s v =
    let t = tail_stands none x xs n i s in
    (below_set x.0 xs i n v a.0 (head_below none x xs n i a t), ascends_set none xs a.1 n i t v)

pub ascends_insert : {V : Type 0} (none : V) (xs : List (ℕ × V)) → NumbersAscend xs → (n i : ℕ) → WouldStandAt none xs n i → (v : V) → NumbersAscend (insert xs i (n, v))
ascends_insert none xs a n zero w v = (below_from none n xs (λ j h. w.greater_after j (omega arith) h), a)
ascends_insert none [] a n (suc i) w v = absurd (omega (arith, w.in_range))
ascends_insert none (x ∷ xs) a n (suc i) w v =
    (below_insert x.0 xs i n v a.0 (w.smaller_before 0 (omega arith)), ascends_insert none xs a.1 n i (tail_would none x xs n i w) v)

pub ascends_remove : {V : Type 0} (xs : List (ℕ × V)) (i : ℕ) → i < length xs → NumbersAscend xs → NumbersAscend (remove xs i)
ascends_remove [] i h a = absurd (omega (arith, h))
ascends_remove (x ∷ xs) zero h a = a.1
ascends_remove (x ∷ xs) (suc i) h a = (below_remove x.0 xs i a.0, ascends_remove xs i (omega (arith, h)) a.1)

-- ---- what holds of each entry

pub all_at : {X : Type 0} (P : X → Type 0) (xs : List X) → AllByRecursion P xs → (i : ℕ) (d : X) → i < length xs → P (get_or xs i d)
all_at P [] a i d h = absurd (omega arith)
all_at P (x ∷ xs) a zero d h = a.0
all_at P (x ∷ xs) a (suc i) d h = all_at P xs a.1 i d (omega arith)

pub all_set : {X : Type 0} (P : X → Type 0) (xs : List X) (i : ℕ) (y : X) → P y → AllByRecursion P xs → AllByRecursion P (set xs i y)
all_set P [] i y p a = tt
all_set P (x ∷ xs) zero y p a = (p, a.1)
all_set P (x ∷ xs) (suc i) y p a = (a.0, all_set P xs i y p a.1)

pub all_insert : {X : Type 0} (P : X → Type 0) (xs : List X) (i : ℕ) (y : X) → P y → AllByRecursion P xs → AllByRecursion P (insert xs i y)
all_insert P xs zero y p a = (p, a)
all_insert P [] (suc i) y p a = (p, tt)
all_insert P (x ∷ xs) (suc i) y p a = (a.0, all_insert P xs i y p a.1)

pub all_remove : {X : Type 0} (P : X → Type 0) (xs : List X) (i : ℕ) → i < length xs → AllByRecursion P xs → AllByRecursion P (remove xs i)
all_remove P [] i h a = absurd (omega (arith, h))
all_remove P (x ∷ xs) zero h a = a.1
all_remove P (x ∷ xs) (suc i) h a = (a.0, all_remove P xs i (omega (arith, h)) a.1)
