-- Laws on how often a name stands in a list, and on the uses that slots count.
use Rattle.std.proofs.Common.{◌≡◌, ◌≢◌, ℕ, suc, ◌+◌, ◌-◌, ◌<◌, ◌≤◌, Bool, true, false, not, ◌&&◌, ◌||◌, ◌⊎◌, cond, nat_le, List, [], ◌∷◌, ◌++◌, length, get_or, take, drop, set, All, Option, None, Some, IsSome, position, eqb, refl, sym, ◌∙◌, ap, subst, inl, inr, arith, bytes_eq, ne_eqb, eqb-true}
use Rattle.std.proofs.lemmas.Bool.{eqb-false, leb-true, le-leb, not-true, and_parts}
use Rattle.std.proofs.lemmas.Bool.Decides.{eqb_tells}
use Rattle.std.proofs.lemmas.List.Sums.{sum_by-cons, sum_by-append, sum_by-drop_more, sum_by-set, sum_by_more, sum_by_more_le}
use Rattle.std.proofs.lemmas.List.Quantifiers.{position-Some}
use Rattle.std.specs.List.{filter}
use Rattle.ctrl_model.specs.Membership.{Among}
use Rattle.ctrl_model.proofs.DistinctLaws.{same_name, same_bytes}
use Rattle.ctrl_model.proofs.Members.{Among-get_or, Among-map, Among-filter, by_map, by_filter, list_all-among, list_all-from_among}
use Rattle.attr_pool.specs.Slots.{Slot, slot_with, free_slot, is_free, holds, slot_at, slot_of, number_for, with_use, without_use, most_uses, IsPool}
use Rattle.attr_pool.specs.Uses.{times, uses_of, held_names, can_be_counted}
use Rattle.attr_pool.proofs.SlotLemmas.{held_name, all_free, or_gives, used_within, none_holds, number_within, number_holds, number_cases, at_set}

-- ---- how often a name stands in a list

pub times-cons : (q x : List ℕ) (xs : List (List ℕ)) → times q (x ∷ xs) ≡ cond (bytes_eq x q) 1 0 + times q xs
times-cons q x xs = sum_by-cons (λ n. cond (bytes_eq n q) 1 0) x xs

pub times-append : (q : List ℕ) (xs ys : List (List ℕ)) → times q (xs ++ ys) ≡ times q xs + times q ys
times-append q xs ys = sum_by-append (λ n. cond (bytes_eq n q) 1 0) xs ys

pub times-drop : (q : List ℕ) (xs : List (List ℕ)) (i : ℕ) (d : List ℕ) → i < length xs
    → times q (drop i xs) ≡ cond (bytes_eq (get_or xs i d) q) 1 0 + times q (drop (i + 1) xs)
times-drop q xs i d l = sum_by-drop_more (λ n. cond (bytes_eq n q) 1 0) xs i d l

pub times-none : (q : List ℕ) (xs : List (List ℕ)) → All (λ n. bytes_eq n q ≡ false) xs → times q xs ≡ 0
times-none q [] h = refl
times-none q (x ∷ xs) h =
    times-cons q x xs ∙ ap (λ b. cond b 1 0 + times q xs) (h 0 x (omega arith)) ∙ ap (λ n. 0 + n) (times-none q xs (λ k d l. h (suc k) d (omega arith)))

-- what stands in a list stands there at least once, and the other way round
pub times-from_among : (x : List ℕ) (xs : List (List ℕ)) → Among x xs → 0 < times x xs
times-from_among x [] m = absurd m
times-from_among x (y ∷ ys) (inl e) =
    let once : times x (y ∷ ys) ≡ 1 + times x ys = times-cons x y ys ∙ ap (λ b. cond b 1 0 + times x ys) (same_bytes y x e) in omega (arith, once)
times-from_among x (y ∷ ys) (inr m) =
    let more = times-from_among x ys m in let parts = times-cons x y ys in omega (arith, more, parts)

pub Among-from_times : (x : List ℕ) (xs : List (List ℕ)) → 0 < times x xs → Among x xs
Among-from_times x [] h = absurd (omega arith)
Among-from_times x (y ∷ ys) h = by (bytes_eq y x) refl (Among-from_times x ys)
  where
    by : (b : Bool) → bytes_eq y x ≡ b → (0 < times x ys → Among x ys) → Among x (y ∷ ys)
    by true e k = inl (same_name y x e)
    by false e k =
        let parts : times x (y ∷ ys) ≡ 0 + times x ys = times-cons x y ys ∙ ap (λ b. cond b 1 0 + times x ys) e in
        inr (k (omega (arith, h, parts)))

-- ---- a loop over names that moves a use of each: uses that were before, that are now, and the names up to a place

-- the name at a place adds one to how often it stands up to there
times-more : (q : List ℕ) (xs : List (List ℕ)) (i : ℕ) (n : List ℕ) → i < length xs → n ≡ get_or xs i n
    → times q (take (i + 1) xs) ≡ times q (take i xs) + cond (bytes_eq n q) 1 0
times-more q xs i n l is = sum_by_more (λ m. cond (bytes_eq m q) 1 0) xs i n l ∙ ap (λ m. times q (take i xs) + cond (bytes_eq m q) 1 0) (sym is)

module _ (before now : List ℕ → ℕ) (names : List (List ℕ)) (i : ℕ) (n : List ℕ) (within : i < length names) (is : n ≡ get_or names i n) where
  -- it stands once more in the whole list than before its place
  pub one_at_least : times n (take i names) + 1 ≤ times n names
  one_at_least =
      let most : times n (take i names) + cond (bytes_eq (get_or names i n) n) 1 0 ≤ times n names = sum_by_more_le (λ m. cond (bytes_eq m n) 1 0) names i n within in
      let one : ◌≡◌ {A = ℕ} (cond (bytes_eq (get_or names i n) n) 1 0) 1 = ap (λ b. cond b 1 0) (same_bytes (get_or names i n) n (sym is)) in
      omega (arith, most, one)

  -- its uses are not all gone yet
  pub still_used : ((q : List ℕ) → now q + times q (take i names) ≡ before q) → ((q : List ℕ) → times q names ≤ before q) → 0 < now n
  still_used so_far enough =
      let one = one_at_least in let kept = so_far n in let most = enough n in
      omega (arith, one, kept, most)

  pub one_fewer : (after : List ℕ → ℕ) → ((q : List ℕ) → now q + times q (take i names) ≡ before q) → ((q : List ℕ) → after q + cond (bytes_eq n q) 1 0 ≡ now q)
      → (q : List ℕ) → after q + times q (take (i + 1) names) ≡ before q
  one_fewer after so_far less q =
      let step = times-more q names i n within is in let kept = so_far q in let gone = less q in
      omega (arith, step, kept, gone)

  pub one_use_more : (after : List ℕ → ℕ) → ((q : List ℕ) → now q ≡ before q + times q (take i names)) → ((q : List ℕ) → after q ≡ now q + cond (bytes_eq n q) 1 0)
      → (q : List ℕ) → after q ≡ before q + times q (take (i + 1) names)
  one_use_more after so_far more q =
      let step = times-more q names i n within is in let kept = so_far q in let come = more q in
      omega (arith, step, kept, come)

-- ---- the uses that slots count

-- the uses that a slot counts of a name
abbrev counted : List ℕ → Slot → ℕ
counted q s = cond (bytes_eq s.name q) s.uses 0

uses-set : (q : List ℕ) (xs : List Slot) (p : ℕ) (y : Slot) → p < length xs → uses_of q (set xs p y) + counted q (slot_at xs p) ≡ uses_of q xs + counted q y
uses-set q xs p y l = sum_by-set (counted q) xs p y free_slot l

nothing : (b : Bool) → ◌≡◌ {A = ℕ} (cond b 0 0) 0
nothing true = refl
nothing false = refl

fits_counted : (q name : List ℕ) (s : Slot) → (is_free s || holds name s) ≡ true → counted q s ≡ cond (bytes_eq name q) s.uses 0
fits_counted q name s h = by (is_free s) refl (or_gives (is_free s) (holds name s) h)
  where
    none : (b : Bool) (n : ℕ) → n ≡ 0 → cond b n 0 ≡ 0
    none true n e = e
    none false n e = refl

    by : (b : Bool) → is_free s ≡ b → (is_free s ≡ false → holds name s ≡ true) → counted q s ≡ cond (bytes_eq name q) s.uses 0
    by true e k =
        let z : s.uses ≡ 0 = eqb-true s.uses 0 e in none (bytes_eq s.name q) s.uses z ∙ sym (none (bytes_eq name q) s.uses z)
    by false e k = ap (λ n. cond (bytes_eq n q) s.uses 0) (held_name name s (k e))

-- one use more of a name
pub uses-with_use : (q name : List ℕ) (xs : List Slot) (p : ℕ) → p < length xs → (is_free (slot_at xs p) || holds name (slot_at xs p)) ≡ true
    → uses_of q (set xs p (with_use name (slot_at xs p))) ≡ uses_of q xs + cond (bytes_eq name q) 1 0
uses-with_use q name xs p l fits =
    let whole = uses-set q xs p (with_use name (slot_at xs p)) l in
    let old = fits_counted q name (slot_at xs p) fits in
    let new : counted q (with_use name (slot_at xs p)) ≡ cond (bytes_eq name q) (slot_at xs p).uses 0 + cond (bytes_eq name q) 1 0 = more (bytes_eq name q) (slot_at xs p).uses in
    omega (arith, whole, old, new)
  where
    more : (b : Bool) (n : ℕ) → cond b (n + 1) 0 ≡ cond b n 0 + cond b 1 0
    more true n = refl
    more false n = refl

fewer : (q : List ℕ) (s : Slot) → 0 < s.uses → counted q (without_use s) + cond (bytes_eq s.name q) 1 0 ≡ counted q s
fewer q s h = by (eqb s.uses 1) refl
  where
    last : (b c : Bool) (n : ℕ) → n ≡ 1 → cond c 0 0 + cond b 1 0 ≡ cond b n 0
    last true c n e = ap (λ m. m + 1) (nothing c) ∙ sym e
    last false c n e = ap (λ m. m + 0) (nothing c)

    less : (b : Bool) (n : ℕ) → 0 < n → cond b (n - 1) 0 + cond b 1 0 ≡ cond b n 0
    less true n l = omega arith
    less false n l = refl

    by : (d : Bool) → eqb s.uses 1 ≡ d → counted q (cond d free_slot (slot_with s.name (s.uses - 1))) + cond (bytes_eq s.name q) 1 0 ≡ counted q s
    by true e = last (bytes_eq s.name q) (bytes_eq [] q) s.uses (eqb-true s.uses 1 e)
    by false e = less (bytes_eq s.name q) s.uses h

-- one use less of a name
pub uses-without_use : (q : List ℕ) (xs : List Slot) (p : ℕ) → 0 < (slot_at xs p).uses
    → uses_of q (set xs p (without_use (slot_at xs p))) + cond (bytes_eq (slot_at xs p).name q) 1 0 ≡ uses_of q xs
uses-without_use q xs p h =
    let whole = uses-set q xs p (without_use (slot_at xs p)) (used_within xs p h) in let one = fewer q (slot_at xs p) h in
    omega (arith, whole, one)

not_held : (q : List ℕ) (s : Slot) → holds q s ≡ false → counted q s ≡ 0
not_held q s h = by (is_free s) (bytes_eq s.name q) refl h
  where
    by : (f b : Bool) → is_free s ≡ f → (not f && b) ≡ false → cond b s.uses 0 ≡ 0
    by true true e k = eqb-true s.uses 0 e
    by true false e k = refl
    by false true e k = absurd (cc)
    by false false e k = refl

-- a name that no slot holds has no use
pub uses-none : (q : List ℕ) (xs : List Slot) → ((n : ℕ) → holds q (slot_at xs n) ≡ false) → uses_of q xs ≡ 0
uses-none q [] h = refl
uses-none q (x ∷ xs) h =
    let parts = sum_by-cons (counted q) x xs in let head = not_held q x (h 0) in let tail = uses-none q xs (λ n. h (suc n)) in
    omega (arith, parts, head, tail)

-- in free slots no name has a use
pub uses-free : (q : List ℕ) (xs : List Slot) → All (λ s. s ≡ free_slot) xs → uses_of q xs ≡ 0
uses-free q xs h = uses-none q xs (λ n. ap (holds q) (all_free xs h n))

-- a name that a slot holds has the uses of this slot
pub uses-held : (q : List ℕ) (xs : List Slot) (n : ℕ) → IsPool xs → slot_of q xs ≡ Some n → uses_of q xs ≡ (slot_at xs n).uses
uses-held q xs n pool e =
    let whole = uses-set q xs n free_slot within.0 in
    let none = uses-none q (set xs n free_slot) (λ k. alone k (at_set xs n free_slot k within.0)) in
    let own : counted q (slot_at xs n) ≡ (slot_at xs n).uses = ap (λ b. cond b (slot_at xs n).uses 0) (and_parts (not (is_free (slot_at xs n))) (bytes_eq (slot_at xs n).name q) within.1).1 in
    let free : counted q free_slot ≡ 0 = nothing (bytes_eq [] q) in
    omega (arith, whole, none, own, free)
  where
    within : (n < length xs) × (holds q (slot_at xs n) ≡ true)
    within = number_within q xs n e

    alone : (k : ℕ) → ((k ≡ n) × (slot_at (set xs n free_slot) k ≡ free_slot)) ⊎ ((k ≢ n) × (slot_at (set xs n free_slot) k ≡ slot_at xs k)) → holds q (slot_at (set xs n free_slot) k) ≡ false
    alone k (inl s) = ap (holds q) s.1
    alone k (inr s) = ap (holds q) s.1 ∙ number_holds q xs n pool e k ∙ ne_eqb k n s.0

-- a name that has a use has a slot
pub used_number : (q : List ℕ) (xs : List Slot) (o : Option ℕ) → 0 < uses_of q xs → o ≡ slot_of q xs → IsSome o
used_number q xs None h e = let none = uses-none q xs (none_holds q xs (sym e)) in absurd (omega (arith, none, h))
used_number q xs (Some n) h e = refl

-- a name in a slot has the name's uses, and its slot the name
pub uses_at_number : (q : List ℕ) (xs : List Slot) (n : ℕ) → IsPool xs → slot_of q xs ≡ Some n → 0 < uses_of q xs → (0 < (slot_at xs n).uses) × ((slot_at xs n).name ≡ q)
uses_at_number q xs n pool e h = (let same = uses-held q xs n pool e in omega (arith, same, h), held_name q (slot_at xs n) (number_within q xs n e).1)

-- a use is taken away in the slot of a name
pub released : (q name : List ℕ) (xs new : List Slot) (n : ℕ) → IsPool xs → slot_of name xs ≡ Some n → 0 < uses_of name xs → new ≡ set xs n (without_use (slot_at xs n))
    → uses_of q new + cond (bytes_eq name q) 1 0 ≡ uses_of q xs
released q name xs new n pool found some e =
    let both = uses_at_number name xs n pool found some in
    ap (λ ys. uses_of q ys + cond (bytes_eq name q) 1 0) e
    ∙ ap (λ m. uses_of q (set xs n (without_use (slot_at xs n))) + cond (bytes_eq m q) 1 0) (sym both.1)
    ∙ uses-without_use q xs n both.0

-- where all uses of some names can be counted, none of them has as many as are counted before its last one
pub count_left : (old now : List Slot) (names : List (List ℕ)) (i : ℕ) (name : List ℕ) → can_be_counted old names ≡ true
    → ((q : List ℕ) → uses_of q now ≡ uses_of q old + times q (take i names)) → i < length names → name ≡ get_or names i name
    → uses_of name now ≡ most_uses → ⊥
count_left old now names i name room so_far within is full =
    let one = one_at_least (λ q. uses_of q old) (λ q. uses_of q now) names i name within is in
    let here = so_far name in
    let among = subst (λ n. Among n names) (sym is) (Among-get_or names i name within) in
    let all : uses_of name old + times name names ≤ most_uses = leb-true (uses_of name old + times name names) most_uses (list_all-among (λ n. nat_le (uses_of n old + times n names) most_uses) names name room among) in
    absurd (omega (arith, one, here, all, full))

-- so can all where no name has more uses
pub can_be_counted-fewer : (old now : List Slot) (names : List (List ℕ)) → ((q : List ℕ) → uses_of q now ≤ uses_of q old) → can_be_counted old names ≡ true → can_be_counted now names ≡ true
can_be_counted-fewer old now names fewer_now room =
    list_all-from_among (λ n. nat_le (uses_of n now + times n names) most_uses) names (λ n among.
    let all : uses_of n old + times n names ≤ most_uses = leb-true (uses_of n old + times n names) most_uses (list_all-among (λ m. nat_le (uses_of m old + times m names) most_uses) names n room among) in
    let less = fewer_now n in
    le-leb (uses_of n now + times n names) most_uses (omega (arith, all, less)))

-- the slot that a name has or gets has as many uses as the name
pub number-uses : (q : List ℕ) (xs : List Slot) (p : ℕ) → IsPool xs → number_for q xs ≡ Some p → uses_of q xs ≡ (slot_at xs p).uses
number-uses q xs p pool e = elim (number_cases (slot_of q xs) (position is_free xs) p e) [
  | inl t ↦ uses-held q xs p pool t
  | inr t ↦ uses-none q xs (none_holds q xs t.0) ∙ sym (eqb-true (slot_at xs p).uses 0 (position-Some is_free xs p free_slot t.1).1)
]

-- ---- the names that are held

by_used : {P : Type 0} (q : List ℕ) (xs : List Slot) → 0 < uses_of q xs → ((s : Slot) → Among s xs → bytes_eq s.name q ≡ true → s.uses ≢ 0 → P) → P
by_used q [] h k = absurd (omega arith)
by_used {P} q (x ∷ xs) h k = by (bytes_eq x.name q) refl (by_used q xs)
  where
    parts : uses_of q (x ∷ xs) ≡ counted q x + uses_of q xs
    parts = sum_by-cons (counted q) x xs

    tail : (0 < uses_of q xs → ((s : Slot) → Among s xs → bytes_eq s.name q ≡ true → s.uses ≢ 0 → P) → P) → counted q x ≡ 0 → P
    tail rest none = rest (omega (arith, h, parts, none)) (λ s m. k s (inr m))

    by : (b : Bool) → bytes_eq x.name q ≡ b → (0 < uses_of q xs → ((s : Slot) → Among s xs → bytes_eq s.name q ≡ true → s.uses ≢ 0 → P) → P) → P
    by false e rest = tail rest (ap (λ b. cond b x.uses 0) e)
    by true e rest = elim (eqb_tells x.uses 0) [
      | inl t ↦ tail rest (ap (λ b. cond b x.uses 0) e ∙ t.1)
      | inr t ↦ k x (inl refl) e t.1
    ]

within_uses : (q : List ℕ) (xs : List Slot) (s : Slot) → Among s xs → counted q s ≤ uses_of q xs
within_uses q [] s m = absurd m
within_uses q (x ∷ xs) s (inl e) =
    let parts = sum_by-cons (counted q) x xs in let same = ap (counted q) e in omega (arith, parts, same)
within_uses q (x ∷ xs) s (inr m) =
    let parts = sum_by-cons (counted q) x xs in let rest = within_uses q xs s m in omega (arith, parts, rest)

-- the names that are held are those that have a use
pub held-from_uses : (q : List ℕ) (xs : List Slot) → 0 < uses_of q xs → Among q (held_names xs)
held-from_uses q xs h =
    by_used q xs h (λ s m e u. subst (λ n. Among n (held_names xs)) (same_name s.name q e)
    (Among-map (λ (x : Slot). x.name) (filter (λ x. not (is_free x)) xs) s (Among-filter (λ x. not (is_free x)) xs s m (ap not (ne_eqb s.uses 0 u)))))

pub uses-from_held : (q : List ℕ) (xs : List Slot) → Among q (held_names xs) → 0 < uses_of q xs
uses-from_held q xs m =
    by_map (λ (x : Slot). x.name) (filter (λ x. not (is_free x)) xs) q m (λ s n e. by_filter (λ x. not (is_free x)) xs s n (λ a f.
    let least = within_uses q xs s a in
    let own : counted q s ≡ s.uses = ap (λ b. cond b s.uses 0) (same_bytes s.name q e) in
    let some : s.uses ≢ 0 = eqb-false s.uses 0 (not-true (is_free s) f) in
    above_zero (uses_of q xs) s.uses least own some))
  where
    above_zero : {c : ℕ} (u n : ℕ) → c ≤ u → c ≡ n → n ≢ 0 → 0 < u
    above_zero u n l e f = omega (arith, l, e, f)
