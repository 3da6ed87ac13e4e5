-- Laws of ascending lists: what a sorted list without repeats holds, what a filter leaves of it, and that each of its numbers
-- stands in it once.
use Rattle.std.proofs.Common.{◌≡◌, ℕ, suc, ◌<◌, ◌==◌, ◌&&◌, Bool, true, false, cond, List, [], ◌∷◌, Less, inl, inr, refl, sym, subst, arith, filter}
use Rattle.std.proofs.lemmas.Bool.{and_parts, and_from}
use Rattle.std.proofs.lemmas.Grind.{common_steps}
use Rattle.std.proofs.lemmas.List.Kept.{Contains-dedup_nat, Contains-from_dedup}
use Rattle.std.proofs.lemmas.List.Sorted.{Contains-permutation, IsPermutation-sym}
use Rattle.std.proofs.lemmas.Map.Keys.{sorted_head, sorted_tail, IsStrictlyIncreasing-dedup, sorted_from_strictly_increasing}
use Rattle.std.specs.List.{Contains, dedup}
use Rattle.std.specs.List.Sorted.{IsStrictlySortedBy, IsSorted, IsPermutation}
use Rattle.std.specs.Ordering.{nat_cmp}
use Rattle.ctrl_model.specs.Membership.{Among}
use Rattle.ctrl_model.specs.Walks.{is_among}
use Rattle.ctrl_model.proofs.Members.{Among-get_or, Among-filter, by_filter, is_among-from, Among-from_test, each_among}
use Rattle.grant_denorm.specs.PairCounts.{Ascends, AreThose}

-- ---- two words for membership

pub Contains-among : (xs : List ℕ) (x : ℕ) → Among x xs → Contains xs x
Contains-among [] x m = absurd m
Contains-among (y ∷ ys) x (inl e) = (0, omega arith, e)
Contains-among (y ∷ ys) x (inr m) = later (Contains-among ys x m)
  where
    later : Contains ys x → Contains (y ∷ ys) x
    later (k, h, e) = (suc k, omega arith, e)

pub Among-contained : (xs : List ℕ) (x : ℕ) → Contains xs x → Among x xs
Among-contained xs x (k, h, e) = subst (λ y. Among y xs) e (Among-get_or xs k x h)

-- ---- a sorted list without repeats ascends

Ascends-from : (xs : List ℕ) → IsStrictlySortedBy nat_cmp xs → Ascends xs
Ascends-from [] s = tt
Ascends-from (x ∷ xs) s =
    (λ m a. below x m (each_among (λ y. nat_cmp x y ≡ Less) xs m (sorted_head nat_cmp x xs s) a), Ascends-from xs (sorted_tail nat_cmp x xs s))
  where
    below : (x y : ℕ) → nat_cmp x y ≡ Less → x < y
    below x y e = grind (arith, common_steps)

pub AreThose-dedup : (members sorted kept : List ℕ) → IsPermutation members sorted → IsSorted nat_cmp sorted → kept ≡ dedup ◌==◌ sorted → AreThose (λ n. is_among n members) kept
AreThose-dedup members sorted kept p s e =
    subst (AreThose (λ n. is_among n members)) (sym e)
    (record {
      ascending = Ascends-from (dedup ◌==◌ sorted) (sorted_from_strictly_increasing (dedup ◌==◌ sorted) (IsStrictlyIncreasing-dedup sorted s));
      each = λ n a. is_among-from n members (Among-contained members n (Contains-permutation sorted members n (IsPermutation-sym members sorted p)
          (Contains-from_dedup ◌==◌ sorted n (Contains-among (dedup ◌==◌ sorted) n a))));
      every = λ n a. Among-contained (dedup ◌==◌ sorted) n (Contains-dedup_nat sorted n (Contains-permutation members sorted n p (Contains-among members n (Among-from_test n members a))));
    })

-- ---- what a filter leaves

Ascends-filter : (p : ℕ → Bool) (xs : List ℕ) → Ascends xs → Ascends (filter p xs)
Ascends-filter p [] a = tt
Ascends-filter p (x ∷ xs) a = either (p x) (Ascends-filter p xs a.1)
  where
    either : (t : Bool) → Ascends (filter p xs) → Ascends (cond t (x ∷ filter p xs) (filter p xs))
    either true r = (λ m h. by_filter p xs m h (λ there passes. a.0 m there), r)
    either false r = r

pub AreThose-filter : (holds p : ℕ → Bool) (xs : List ℕ) → AreThose holds xs → AreThose (λ n. holds n && p n) (filter p xs)
AreThose-filter holds p xs those = record {
  ascending = Ascends-filter p xs those.ascending;
  each = λ n a. by_filter p xs n a (λ there passes. and_from (holds n) (p n) (those.each n there) passes);
  every = λ n e. Among-filter p xs n (those.every n (and_parts (holds n) (p n) e).0) (and_parts (holds n) (p n) e).1;
}

-- ---- the test of membership in such a list

pub is_among-those : (holds : ℕ → Bool) (xs : List ℕ) → AreThose holds xs → (n : ℕ) → is_among n xs ≡ holds n
is_among-those holds xs those n = by (is_among n xs) (holds n) (λ e. those.each n (Among-from_test n xs e)) (λ e. is_among-from n xs (those.every n e))
  where
    by : (s t : Bool) → (s ≡ true → t ≡ true) → (t ≡ true → s ≡ true) → s ≡ t
    by true t e f = sym (e refl)
    by false true e f = f refl
    by false false e f = refl
