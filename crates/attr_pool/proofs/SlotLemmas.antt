-- Lemmas on the slots of a pool.
use Rattle.std.proofs.Common.{◌≡◌, ◌≢◌, ℕ, zero, suc, ◌+◌, ◌-◌, ◌<◌, ◌≤◌, Bool, true, false, not, ◌&&◌, ◌||◌, ◌⊎◌, cond, List, [], ◌∷◌, length, get_or, take, set, All, Option, Some, None, position, count_by, nat_le, eqb, ltb, refl, sym, ap, ◌∙◌, subst, inl, inr, arith, bytes_eq}
use Rattle.std.specs.List.{prefix_len, position_or_len, list_any, list_all}
use Rattle.std.proofs.lemmas.Bool.{eqb-true, eqb-false, ltb-false, leb-true, both_ways, not-true, and_parts, and_from}
use Rattle.std.proofs.lemmas.Bool.Decides.{eqb_tells}
use Rattle.std.proofs.lemmas.List.{get_or-set_same, get_or-set_other, length-set, set-get_or}
use Rattle.std.proofs.lemmas.List.Elements.{All-tail}
use Rattle.std.proofs.lemmas.List.Folds.{list_any_more}
use Rattle.std.proofs.lemmas.List.Quantifiers.{position-Some}
use Rattle.std.proofs.lemmas.List.Sums.{fails_before_first, count_by-le-length, sum_by-cons, prefix_len-le-length}
use Rattle.std.proofs.lemmas.Slice.Eq.{bytes_eq-Decides}
use Rattle.ctrl_model.specs.NameForm.{is_name, is_name_byte}
use Rattle.attr_pool.specs.Slots.{Slot, slot_with, free_slot, is_free, holds, slot_at, slot_of, or_else, number_for, held_count, most_slots, with_use, without_use, row_bit, IsPool}

pub false_where : (b : Bool) → (b ≡ true → ⊥) → b ≡ false
false_where true f = absurd (f refl)
false_where false f = refl

-- the name that a slot holds
pub held_name : (q : List ℕ) (s : Slot) → holds q s ≡ true → s.name ≡ q
held_name q s h = (bytes_eq-Decides s.name q).0 (and_parts (not (is_free s)) (bytes_eq s.name q) h).1

pub held_used : (q : List ℕ) (s : Slot) → holds q s ≡ true → is_free s ≡ false
held_used q s h = not-true (is_free s) (and_parts (not (is_free s)) (bytes_eq s.name q) h).0

held_within : (q : List ℕ) (xs : List Slot) (n : ℕ) → holds q (slot_at xs n) ≡ true → n < length xs
held_within q [] n h = absurd (cc)
held_within q (x ∷ xs) zero h = omega arith
held_within q (x ∷ xs) (suc n) h = let r : n < length xs = held_within q xs n h in omega arith

pub used_within : (xs : List Slot) (n : ℕ) → 0 < (slot_at xs n).uses → n < length xs
used_within [] n h = absurd (omega arith)
used_within (x ∷ xs) zero h = omega arith
used_within (x ∷ xs) (suc n) h = let r : n < length xs = used_within xs n h in omega arith

none_means : (b : Bool) (n : ℕ) → cond b (Some n) None ≡ None → b ≡ false
none_means true n e = absurd (cc)
none_means false n e = refl

pub position_none : (p : Slot → Bool) (xs : List Slot) → position p xs ≡ None → (k : ℕ) → k < length xs → p (slot_at xs k) ≡ false
position_none p xs e k h =
    let least : length xs ≤ position_or_len p xs = ltb-false (position_or_len p xs) (length xs) (none_means (ltb (position_or_len p xs) (length xs)) (position_or_len p xs) e) in
    fails_before_first p xs k free_slot (omega arith)

-- no slot holds a name that has none
pub none_holds : (q : List ℕ) (xs : List Slot) → slot_of q xs ≡ None → (n : ℕ) → holds q (slot_at xs n) ≡ false
none_holds q xs e n = false_where (holds q (slot_at xs n)) (λ y. both_ways _ (position_none (holds q) xs e n (held_within q xs n y)) y)

-- the slot of a name holds it
pub number_within : (q : List ℕ) (xs : List Slot) (m : ℕ) → slot_of q xs ≡ Some m → (m < length xs) × (holds q (slot_at xs m) ≡ true)
number_within q xs m e = let r = position-Some (holds q) xs m free_slot e in (r.0, r.1)

-- and no other slot does
pub number_holds : (q : List ℕ) (xs : List Slot) (m : ℕ) → IsPool xs → slot_of q xs ≡ Some m → (n : ℕ) → holds q (slot_at xs n) ≡ eqb n m
number_holds q xs m pool e n =
    let r = number_within q xs m e in
    elim (eqb_tells n m) [
      | inl t ↦ subst (λ (k : ℕ). holds q (slot_at xs k) ≡ eqb n m) (sym t.1) (r.1 ∙ sym t.0)
      | inr t ↦ false_where (holds q (slot_at xs n)) (λ y. t.1 (pool.apart n m (held_within q xs n y) r.0 q y r.1)) ∙ sym t.0
    ]

-- the only slot of a name is the one that is found
pub number_found : (q : List ℕ) (xs : List Slot) → IsPool xs → (n : ℕ) → holds q (slot_at xs n) ≡ true → slot_of q xs ≡ Some n
number_found q xs pool n y = by (slot_of q xs) refl
  where
    by : (found : Option ℕ) → slot_of q xs ≡ found → slot_of q xs ≡ Some n
    by None e = absurd (both_ways _ (none_holds q xs e n) y)
    by (Some m) e = e ∙ ap Some (sym (eqb-true n m (sym (number_holds q xs m pool e n) ∙ y)))

pub number_cases : (a b : Option ℕ) (p : ℕ) → or_else a b ≡ Some p → (a ≡ Some p) ⊎ ((a ≡ None) × (b ≡ Some p))
number_cases None b p e = inr (refl, e)
number_cases (Some n) b p e = inl e

-- the number that a name has or gets is one of a slot that holds it or is free
pub number_fits : (q : List ℕ) (xs : List Slot) (p : ℕ) → number_for q xs ≡ Some p → (p < length xs) × ((is_free (slot_at xs p) || holds q (slot_at xs p)) ≡ true)
number_fits q xs p e =
    elim (number_cases (slot_of q xs) (position is_free xs) p e) [
      | inl t ↦ let r = number_within q xs p t in (r.0, or_second _ _ r.1)
      | inr t ↦ let r = position-Some is_free xs p free_slot t.1 in (r.0, or_first _ _ r.1)
    ]
  where
    or_second : (a b : Bool) → b ≡ true → (a || b) ≡ true
    or_second true b h = refl
    or_second false b h = h

    or_first : (a b : Bool) → a ≡ true → (a || b) ≡ true
    or_first true b h = refl
    or_first false b h = absurd (cc)

pub at_set : (xs : List Slot) (p : ℕ) (y : Slot) (i : ℕ) → p < length xs → ((i ≡ p) × (slot_at (set xs p y) i ≡ y)) ⊎ ((i ≢ p) × (slot_at (set xs p y) i ≡ slot_at xs i))
at_set xs p y i h =
    elim (eqb_tells i p) [
      | inl t ↦ inl (t.1, ap (λ k. slot_at (set xs p y) k) t.1 ∙ get_or-set_same xs p y free_slot h)
      | inr t ↦ inr (t.1, get_or-set_other xs p i y free_slot t.1)
    ]

-- a slot that changes, where no other one holds its name
pub IsPool-set : (xs : List Slot) (p : ℕ) (y : Slot) → IsPool xs → p < length xs → ((q : List ℕ) → holds q y ≡ true → (k : ℕ) → holds q (slot_at xs k) ≡ true → k ≡ p) → (y.uses ≡ 0 → y ≡ free_slot) → IsPool (set xs p y)
IsPool-set xs p y pool h alone empty = record {
  long = length-set xs p y ∙ pool.long;
  apart = λ i j a b q u v. apart i j a b q u v (at_set xs p y i h) (at_set xs p y j h);
  free = λ i u. free i u (at_set xs p y i h);
}
  where
    turned : (q : List ℕ) (a b : Slot) → a ≡ b → holds q a ≡ true → holds q b ≡ true
    turned q a b e u = sym (ap (holds q) e) ∙ u

    apart : (i j : ℕ) → i < length (set xs p y) → j < length (set xs p y) → (q : List ℕ) → holds q (slot_at (set xs p y) i) ≡ true → holds q (slot_at (set xs p y) j) ≡ true → ((i ≡ p) × (slot_at (set xs p y) i ≡ y)) ⊎ ((i ≢ p) × (slot_at (set xs p y) i ≡ slot_at xs i)) → ((j ≡ p) × (slot_at (set xs p y) j ≡ y)) ⊎ ((j ≢ p) × (slot_at (set xs p y) j ≡ slot_at xs j)) → i ≡ j
    apart i j a b q u v (inl s) (inl t) = s.0 ∙ sym t.0
    apart i j a b q u v (inl s) (inr t) = s.0 ∙ sym (alone q (turned q _ _ s.1 u) j (turned q _ _ t.1 v))
    apart i j a b q u v (inr s) (inl t) = alone q (turned q _ _ t.1 v) i (turned q _ _ s.1 u) ∙ sym t.0
    apart i j a b q u v (inr s) (inr t) = pool.apart i j (held_within q xs i (turned q _ _ s.1 u)) (held_within q xs j (turned q _ _ t.1 v)) q (turned q _ _ s.1 u) (turned q _ _ t.1 v)

    free : (i : ℕ) → (slot_at (set xs p y) i).uses ≡ 0 → ((i ≡ p) × (slot_at (set xs p y) i ≡ y)) ⊎ ((i ≢ p) × (slot_at (set xs p y) i ≡ slot_at xs i)) → slot_at (set xs p y) i ≡ free_slot
    free i u (inl s) = s.1 ∙ empty (sym (ap (λ (x : Slot). x.uses) s.1) ∙ u)
    free i u (inr s) = s.1 ∙ pool.free i (sym (ap (λ (x : Slot). x.uses) s.1) ∙ u)

-- one use more leaves a pool
pub IsPool-with_use : (q : List ℕ) (xs : List Slot) (p : ℕ) → IsPool xs → number_for q xs ≡ Some p → IsPool (set xs p (with_use q (slot_at xs p)))
IsPool-with_use q xs p pool e =
    IsPool-set xs p (with_use q (slot_at xs p)) pool (number_fits q xs p e).0 alone (λ u. absurd (omega arith))
  where
    alone : (r : List ℕ) → holds r (with_use q (slot_at xs p)) ≡ true → (k : ℕ) → holds r (slot_at xs k) ≡ true → k ≡ p
    alone r u k v =
        let same : q ≡ r = held_name r (with_use q (slot_at xs p)) u in
        let w : holds q (slot_at xs k) ≡ true = subst (λ (n : List ℕ). holds n (slot_at xs k) ≡ true) (sym same) v in
        elim (number_cases (slot_of q xs) (position is_free xs) p e) [
          | inl t ↦ eqb-true k p (sym (number_holds q xs p pool t k) ∙ w)
          | inr t ↦ absurd (both_ways _ (none_holds q xs t.0 k) w)
        ]

-- one use less leaves a pool
pub IsPool-without_use : (xs : List Slot) (p : ℕ) → IsPool xs → 0 < (slot_at xs p).uses → IsPool (set xs p (without_use (slot_at xs p)))
IsPool-without_use xs p pool used =
    IsPool-set xs p (without_use (slot_at xs p)) pool within (λ r u k v. pool.apart k p (held_within r xs k v) within r v (keeps r (slot_at xs p) used u)) (empty (slot_at xs p) used)
  where
    within : p < length xs
    within = used_within xs p used

    keeps_by : (r : List ℕ) (s : Slot) (b : Bool) → is_free s ≡ false → holds r (cond b free_slot (slot_with s.name (s.uses - 1))) ≡ true → holds r s ≡ true
    keeps_by r s true f u = absurd (cc)
    keeps_by r s false f u = and_from (not (is_free s)) (bytes_eq s.name r) (ap not f) (and_parts (not (is_free (slot_with s.name (s.uses - 1)))) (bytes_eq s.name r) u).1

    used_is : (s : Slot) → 0 < s.uses → is_free s ≡ false
    used_is s h = false_where (is_free s) (λ y. let z : s.uses ≡ 0 = eqb-true s.uses 0 y in absurd (omega arith))

    keeps : (r : List ℕ) (s : Slot) → 0 < s.uses → holds r (without_use s) ≡ true → holds r s ≡ true
    keeps r s h u = keeps_by r s (eqb s.uses 1) (used_is s h) u

    empty_by : (s : Slot) → 0 < s.uses → (b : Bool) → eqb s.uses 1 ≡ b → (cond b free_slot (slot_with s.name (s.uses - 1))).uses ≡ 0 → cond b free_slot (slot_with s.name (s.uses - 1)) ≡ free_slot
    empty_by s h true e u = refl
    empty_by s h false e u = absurd (eqb-false s.uses 1 e (omega arith))

    empty : (s : Slot) → 0 < s.uses → (without_use s).uses ≡ 0 → without_use s ≡ free_slot
    empty s h u = empty_by s h (eqb s.uses 1) refl u

count_step : (b : Bool) (c l n : ℕ) → (c ≡ l → n ≡ l) → c ≤ l → cond b 1 0 + c ≡ suc l → cond b (1 + n) 0 ≡ suc l
count_step true c l n f h e = let g : n ≡ l = f (omega arith) in omega arith
count_step false c l n f h e = absurd (omega arith)

prefix_step : (b : Bool) (c l n : ℕ) → (n ≡ l → c ≡ l) → cond b (1 + n) 0 ≡ suc l → cond b 1 0 + c ≡ suc l
prefix_step true c l n f e = let g : c ≡ l = f (omega arith) in omega arith
prefix_step false c l n f e = absurd (omega arith)

all_counted : (p : Slot → Bool) (xs : List Slot) → count_by p xs ≡ length xs → prefix_len p xs ≡ length xs
all_counted p [] e = refl
all_counted p (x ∷ xs) e = count_step (p x) (count_by p xs) (length xs) (prefix_len p xs) (all_counted p xs) (count_by-le-length p xs) (sym (sum_by-cons (λ s. cond (p s) 1 0) x xs) ∙ e)

all_passed : (p : Slot → Bool) (xs : List Slot) → prefix_len p xs ≡ length xs → count_by p xs ≡ length xs
all_passed p [] e = refl
all_passed p (x ∷ xs) e = sum_by-cons (λ s. cond (p s) 1 0) x xs ∙ prefix_step (p x) (count_by p xs) (length xs) (prefix_len p xs) (all_passed p xs) e

or_none : (a b : Option ℕ) → or_else a b ≡ None → (a ≡ None) × (b ≡ None)
or_none None b e = (refl, e)
or_none (Some n) b e = absurd (cc)

-- a name has and gets no number just where it has none and all slots are held
pub number_none : (q : List ℕ) (xs : List Slot) → length xs ≡ most_slots → number_for q xs ≡ None → (slot_of q xs ≡ None) × (held_count xs ≡ most_slots)
number_none q xs long e =
    let none = or_none (slot_of q xs) (position is_free xs) e in
    let least : length xs ≤ position_or_len is_free xs = ltb-false (position_or_len is_free xs) (length xs) (none_means (ltb (position_or_len is_free xs) (length xs)) (position_or_len is_free xs) none.1) in
    let most : position_or_len is_free xs ≤ length xs = prefix_len-le-length (λ s. not (is_free s)) xs in
    (none.0, all_passed (λ s. not (is_free s)) xs (omega arith) ∙ long)

pub number_some : (q : List ℕ) (xs : List Slot) (p : ℕ) → length xs ≡ most_slots → number_for q xs ≡ Some p → (slot_of q xs ≡ None) × (held_count xs ≡ most_slots) → ⊥
number_some q xs p long e full =
    elim (number_cases (slot_of q xs) (position is_free xs) p e) [
      | inl t ↦ some_none (slot_of q xs) p t full.0
      | inr t ↦
          let r = position-Some is_free xs p free_slot t.1 in
          let whole : position_or_len is_free xs ≡ length xs = all_counted (λ s. not (is_free s)) xs (full.1 ∙ sym long) in
          both_ways (is_free (slot_at xs p)) (fails_before_first is_free xs p free_slot (subst (λ (n : ℕ). p < n) (sym whole) r.0)) r.1
    ]
  where
    some_none : (o : Option ℕ) (n : ℕ) → o ≡ Some n → o ≡ None → ⊥
    some_none o n a b = cc

row_step : (a b : Bool) (one none : ℕ) → cond b one (cond a one none) ≡ cond (a || b) one none
row_step true true one none = refl
row_step true false one none = refl
row_step false true one none = refl
row_step false false one none = refl

-- one name more in a row
pub row_bit-more : (xs : List Slot) (names : List (List ℕ)) (i : ℕ) (q : List ℕ) → i < length names → q ≡ get_or names i q → (n old new : ℕ) → old ≡ row_bit xs (take i names) n → new ≡ cond (holds q (slot_at xs n)) 1 old → new ≡ row_bit xs (take (i + 1) names) n
row_bit-more xs names i q h is n old new a b =
    b ∙ ap (λ k. cond (holds q (slot_at xs n)) 1 k) a
    ∙ row_step (list_any (λ name. holds name (slot_at xs n)) (take i names)) (holds q (slot_at xs n)) 1 0
    ∙ ap (λ t. cond (list_any (λ name. holds name (slot_at xs n)) (take i names) || t) 1 0) (ap (λ name. holds name (slot_at xs n)) is)
    ∙ ap (λ t. cond t 1 0) (sym (list_any_more (λ name. holds name (slot_at xs n)) names i q h))

pub all_free : (xs : List Slot) → All (λ s. s ≡ free_slot) xs → (i : ℕ) → slot_at xs i ≡ free_slot
all_free [] h i = refl
all_free (x ∷ xs) h zero = h 0 free_slot (omega arith)
all_free (x ∷ xs) h (suc i) = all_free xs (All-tail (λ s. s ≡ free_slot) x xs h) i

-- free slots are a pool
pub IsPool-free : (xs : List Slot) → length xs ≡ most_slots → All (λ s. s ≡ free_slot) xs → IsPool xs
IsPool-free xs long h = record {
  long = long;
  apart = λ i j a b q u v. absurd (both_ways (holds q (slot_at xs i)) (ap (holds q) (all_free xs h i)) u);
  free = λ i u. all_free xs h i;
}

-- a name is short
pub is_name-short : (bytes : List ℕ) → is_name bytes ≡ true → length bytes ≤ 64
is_name-short bytes h =
    leb-true (length bytes) 64 (and_parts (nat_le 1 (length bytes)) (nat_le (length bytes) 64) (and_parts (nat_le 1 (length bytes) && nat_le (length bytes) 64) (list_all is_name_byte bytes) h).0).1

pub or_gives : (a b : Bool) → (a || b) ≡ true → a ≡ false → b ≡ true
or_gives true b h f = absurd (cc)
or_gives false b h f = h

-- the slots after one use more of a slot that is not free, or none
pub set-used : (xs : List Slot) (i : ℕ) (q : List ℕ) (s new : Slot) (r : Bool) → s ≡ slot_at xs i → (is_free (slot_at xs i) || holds q (slot_at xs i)) ≡ true → is_free s ≡ false → new ≡ cond r (with_use s.name s) s → set xs i new ≡ cond r (set xs i (with_use q (slot_at xs i))) xs
set-used xs i q s new true same fits free e =
    let held : holds q (slot_at xs i) ≡ true = or_gives (is_free (slot_at xs i)) (holds q (slot_at xs i)) fits (subst (λ (t : Slot). is_free t ≡ false) same free) in
    ap (set xs i) (e ∙ ap (λ n. with_use n s) (subst (λ (t : Slot). t.name ≡ q) (sym same) (held_name q (slot_at xs i) held)) ∙ ap (with_use q) same)
set-used xs i q s new false same fits free e =
    ap (set xs i) (e ∙ same) ∙ set-get_or xs i free_slot

-- one use more or none leaves a pool
pub IsPool-used : (q : List ℕ) (xs new : List Slot) (p : ℕ) (r : Bool) → IsPool xs → number_for q xs ≡ Some p → new ≡ cond r (set xs p (with_use q (slot_at xs p))) xs → IsPool new
IsPool-used q xs new p true pool e n = subst IsPool (sym n) (IsPool-with_use q xs p pool e)
IsPool-used q xs new p false pool e n = subst IsPool (sym n) pool
