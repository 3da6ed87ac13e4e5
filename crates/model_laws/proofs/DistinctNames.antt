-- How many different names a long list has, told from its ranks: where they ascend no name stands twice. The test goes along the
-- list once, and so computes where a count of different names is too long to be computed.
use Rattle.std.proofs.Common.{◌≡◌, ℕ, ◌+◌, ◌*◌, ◌<◌, ◌≤◌, Bool, true, false, ◌&&◌, nat_lt, nat_le, List, [], ◌∷◌, ◌++◌, length, ◌∙◌, ap, inl, inr, arith, ltb-true, bytes_eq, codes}
use Rattle.std.proofs.lemmas.Bool.{and_parts, false_from_ne_true, leb-true}
use Rattle.std.proofs.lemmas.Map.Made.{distinct_count-le, distinct_count-from_IsDistinct}
use Rattle.std.specs.Cmp.Lexicographic.{nat_list_eq_equiv}
use Rattle.std.specs.List.{AllByRecursion, IsDistinct}
use Rattle.std.specs.Set.{is_member, distinct_count}
use Rattle.ctrl_model.proofs.DistinctLaws.{Includes, distinct_count-Includes, same_name, Among-from_is_member}
use Rattle.ctrl_model.proofs.Members.{by_append}
use Rattle.ctrl_model.specs.Membership.{Among}
use Rattle.ctrl_model.specs.State.{State, start}
use Rattle.ctrl_model.specs.EntityCommands.{entity}

-- ---- ranks

-- the rank of a name of two bytes, by its first and then its second; a name of one byte comes after all of these
abbrev pub rank : List ℕ → ℕ
rank [] = 0
rank (a ∷ []) = 65536 + a
rank (a ∷ b ∷ bs) = a * 256 + b

-- ranks ascend, from above one on
abbrev pub ascends : ℕ → List (List ℕ) → Bool
ascends low [] = true
ascends low (x ∷ xs) = nat_lt low (rank x) && ascends (rank x) xs

apart : (low : ℕ) (x : List ℕ) (ys : List (List ℕ)) → rank x ≤ low → ascends low ys ≡ true → AllByRecursion (λ y. bytes_eq x y ≡ false) ys
apart low x [] p e = tt
apart low x (y ∷ ys) p e =
    let parts = and_parts (nat_lt low (rank y)) (ascends (rank y) ys) e in
    let above = ltb-true low (rank y) parts.0 in
    (false_from_ne_true (bytes_eq x y) (λ s. not_same (rank x) low (rank y) p above (ap rank (same_name x y s))), apart (rank y) x ys (omega arith) parts.1)
  where
    not_same : (a b c : ℕ) → a ≤ b → b < c → a ≡ c → ⊥
    not_same a b c p q e = absurd (omega arith)

IsDistinct-ascending : (low : ℕ) (xs : List (List ℕ)) → ascends low xs ≡ true → IsDistinct bytes_eq xs
unfolding IsDistinct
IsDistinct-ascending low [] e = tt
IsDistinct-ascending low (x ∷ xs) e =
    let parts = and_parts (nat_lt low (rank x)) (ascends (rank x) xs) e in
    (apart (rank x) x xs (omega arith) parts.1, IsDistinct-ascending (rank x) xs parts.1)

-- names whose ranks ascend count each
pub distinct_count-ascending : (low : ℕ) (xs : List (List ℕ)) → ascends low xs ≡ true → distinct_count bytes_eq xs ≡ length xs
distinct_count-ascending low xs e = distinct_count-from_IsDistinct nat_list_eq_equiv xs (IsDistinct-ascending low xs e)

-- ---- more names than a number, or no more

-- a list that ascends and is longer than a number has more different names
pub more_names : (most : ℕ) (xs : List (List ℕ)) → ascends 0 xs ≡ true → nat_lt most (length xs) ≡ true → nat_lt most (distinct_count bytes_eq xs) ≡ true
more_names most xs e long = ap (λ n. nat_lt most n) (distinct_count-ascending 0 xs e) ∙ long

not_above : (most n : ℕ) → n ≤ most → nat_lt most n ≡ false
not_above most n p = false_from_ne_true (nat_lt most n) (λ e. let above = ltb-true most n e in absurd (omega arith))

-- a list that is no longer than a number has no more different names
pub no_more_names : (most : ℕ) (xs : List (List ℕ)) → nat_le (length xs) most ≡ true → nat_lt most (distinct_count bytes_eq xs) ≡ false
no_more_names most xs short =
    let count = distinct_count-le bytes_eq xs in
    let length = leb-true (length xs) most short in
    not_above most (distinct_count bytes_eq xs) (omega arith)

-- and none more with one of its names once again
pub no_more_names-again : (most : ℕ) (xs : List (List ℕ)) (n : List ℕ) → nat_le (length xs) most ≡ true → is_member bytes_eq xs n ≡ true
    → nat_lt most (distinct_count bytes_eq (xs ++ n ∷ [])) ≡ false
no_more_names-again most xs n short there =
    let count = distinct_count-le bytes_eq xs in
    let length = leb-true (length xs) most short in
    let same = distinct_count-Includes (xs ++ n ∷ []) xs all in
    not_above most (distinct_count bytes_eq (xs ++ n ∷ [])) (omega arith)
  where
    all : Includes (xs ++ n ∷ []) xs
    all x m = by_append xs (n ∷ []) x m (λ k. k) last
      where
        last : Among x (n ∷ []) → Among x xs
        last (inl e) = rw (← e) (Among-from_is_member xs n there)
        last (inr k) = absurd k

-- ---- the state in which many names are used

-- identity 1, named a, has them as its attributes
abbrev pub carried_by_one : List (List ℕ) → State
carried_by_one names = record start { identities = record { rows = (1, entity (codes "a") names) ∷ []; next = 2 } }
