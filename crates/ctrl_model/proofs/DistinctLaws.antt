-- Laws on how many different names a list has: a list whose names all stand in another has no more of them.
use Rattle.std.proofs.Common.{◌≡◌, ℕ, ◌≤◌, Bool, true, false, cond, not, ◌||◌, inl, inr, List, [], ◌∷◌, ◌++◌, map, refl, sym, ◌∙◌, ap, subst, bytes_eq}
use Rattle.std.proofs.lemmas.Bool.{and_parts, and_from, both_ways, true≢false, not-true, or_right, false_from_ne_true}
use Rattle.std.proofs.lemmas.Map.Made.{length-le_from_is_member}
use Rattle.std.proofs.lemmas.Slice.Eq.{bytes_eq-Decides}
use Rattle.std.specs.Cmp.Lexicographic.{nat_list_eq_equiv}
use Rattle.std.specs.List.{filter, flat_map, AllByRecursion, IsDistinct}
use Rattle.std.specs.Set.{is_member, unique_keys, distinct_count}
use Rattle.ctrl_model.specs.Membership.{Among}
use Rattle.ctrl_model.specs.Matches.{has_name}
use Rattle.ctrl_model.specs.ValueForms.{is_distinct}
use Rattle.ctrl_model.proofs.Members.{Among-append_left, Among-append_right, by_append, by_filter, by_flat_map, Among-flat_map, by_list_any}

-- ---- names are the same where a test of their bytes says so

pub same_name : (a b : List ℕ) → bytes_eq a b ≡ true → a ≡ b
same_name a b e = (bytes_eq-Decides a b).0 e

pub same_bytes : (a b : List ℕ) → a ≡ b → bytes_eq a b ≡ true
same_bytes a b e = (bytes_eq-Decides a b).1 e

-- ---- all of one list stand in another

abbrev pub Includes : {X : Type 0} → List X → List X → Type 0
Includes {X} xs ys = (x : X) → Among x xs → Among x ys

pub Includes-append : {X : Type 0} (vs ws xs ys : List X) → Includes vs xs → Includes ws ys → Includes (vs ++ ws) (xs ++ ys)
Includes-append vs ws xs ys f g x h = by_append vs ws x h (λ m. Among-append_left xs ys x (f x m)) (λ m. Among-append_right xs ys x (g x m))

pub Includes-filter : {X Y : Type 0} (f : X → List Y) (p : X → Bool) (xs : List X) → Includes (flat_map f (filter p xs)) (flat_map f xs)
Includes-filter f p xs y h = by_flat_map f (filter p xs) y h (λ x m n. by_filter p xs x m (λ k _. Among-flat_map f xs x y k n))

pub Includes-map : {X Y Z : Type 0} (f : Y → List Z) (g : X → Y) (h : X → List Z) → ((x : X) → f (g x) ≡ h x) → (xs : List X) → Includes (flat_map f (map g xs)) (flat_map h xs)
Includes-map f g h same [] z m = m
Includes-map f g h same (x ∷ xs) z m =
    by_append (f (g x)) (flat_map f (map g xs)) z m (λ n. Among-append_left (h x) (flat_map h xs) z (subst (λ ys. Among z ys) (same x) n))
    (λ n. Among-append_right (h x) (flat_map h xs) z (Includes-map f g h same xs z n))

-- ---- how many different names there are

is_member-unique_keys : (xs : List (List ℕ)) (q : List ℕ) → is_member bytes_eq (unique_keys bytes_eq xs) q ≡ true → is_member bytes_eq xs q ≡ true
is_member-unique_keys [] q e = e
is_member-unique_keys (x ∷ xs) q e = by (is_member bytes_eq xs x) e (is_member-unique_keys xs q)
  where
    by : (b : Bool) → is_member bytes_eq (cond b (unique_keys bytes_eq xs) (x ∷ unique_keys bytes_eq xs)) q ≡ true
        → (is_member bytes_eq (unique_keys bytes_eq xs) q ≡ true → is_member bytes_eq xs q ≡ true) → (bytes_eq q x || is_member bytes_eq xs q) ≡ true
    by true m h = or_right (bytes_eq q x) (is_member bytes_eq xs q) (h m)
    by false m h = or_more (bytes_eq q x) (is_member bytes_eq (unique_keys bytes_eq xs) q) (is_member bytes_eq xs q) h m
      where
        or_more : (a b c : Bool) → (b ≡ true → c ≡ true) → (a || b) ≡ true → (a || c) ≡ true
        or_more true b c k e = refl
        or_more false b c k e = k e

is_member-unique_keys-from : (xs : List (List ℕ)) (q : List ℕ) → is_member bytes_eq xs q ≡ true → is_member bytes_eq (unique_keys bytes_eq xs) q ≡ true
is_member-unique_keys-from [] q e = e
is_member-unique_keys-from (x ∷ xs) q e = by (is_member bytes_eq xs x) (bytes_eq q x) refl refl e (is_member-unique_keys-from xs q)
  where
    by : (b c : Bool) → is_member bytes_eq xs x ≡ b → bytes_eq q x ≡ c → (c || is_member bytes_eq xs q) ≡ true
        → (is_member bytes_eq xs q ≡ true → is_member bytes_eq (unique_keys bytes_eq xs) q ≡ true)
        → is_member bytes_eq (cond b (unique_keys bytes_eq xs) (x ∷ unique_keys bytes_eq xs)) q ≡ true
    by true true m s k h = h (subst (λ n. is_member bytes_eq xs n ≡ true) (sym (same_name q x s)) m)
    by true false m s k h = h k
    by false true m s k h = ap (λ b. b || is_member bytes_eq (unique_keys bytes_eq xs) q) s
    by false false m s k h = or_right (bytes_eq q x) (is_member bytes_eq (unique_keys bytes_eq xs) q) (h k)

apart_from_absent : (x : List ℕ) (ys : List (List ℕ)) → (is_member bytes_eq ys x ≡ true → ⊥) → AllByRecursion (λ y. bytes_eq x y ≡ false) ys
apart_from_absent x [] n = tt
apart_from_absent x (y ∷ ys) n = (
  false_from_ne_true (bytes_eq x y) (λ e. n (ap (λ b. b || is_member bytes_eq ys x) e)),
  apart_from_absent x ys (λ e. n (or_right (bytes_eq x y) (is_member bytes_eq ys x) e)),
)

IsDistinct-unique_keys : (xs : List (List ℕ)) → IsDistinct bytes_eq (unique_keys bytes_eq xs)
unfolding IsDistinct
IsDistinct-unique_keys [] = tt
IsDistinct-unique_keys (x ∷ xs) = by (is_member bytes_eq xs x) refl (IsDistinct-unique_keys xs)
  where
    by : (b : Bool) → is_member bytes_eq xs x ≡ b → IsDistinct bytes_eq (unique_keys bytes_eq xs)
        → IsDistinct bytes_eq (cond b (unique_keys bytes_eq xs) (x ∷ unique_keys bytes_eq xs))
    by true m d = d
    by false m d = (apart_from_absent x (unique_keys bytes_eq xs) (λ e. both_ways (is_member bytes_eq xs x) m (is_member-unique_keys xs x e)), d)

pub is_member-from_among : (xs : List (List ℕ)) (x : List ℕ) → Among x xs → is_member bytes_eq xs x ≡ true
is_member-from_among [] x h = absurd h
is_member-from_among (y ∷ xs) x (inl e) = ap (λ b. b || is_member bytes_eq xs x) (same_bytes x y (sym e))
is_member-from_among (y ∷ xs) x (inr h) = or_right (bytes_eq x y) (is_member bytes_eq xs x) (is_member-from_among xs x h)

pub Among-from_is_member : (xs : List (List ℕ)) (x : List ℕ) → is_member bytes_eq xs x ≡ true → Among x xs
Among-from_is_member xs x e = by_list_any (bytes_eq x) xs e (λ y m s. subst (λ n. Among n xs) (sym (same_name x y s)) m)

-- a list whose names all stand in another has no more different names
pub distinct_count-Includes : (xs ys : List (List ℕ)) → Includes xs ys → distinct_count bytes_eq xs ≤ distinct_count bytes_eq ys
distinct_count-Includes xs ys sub =
    length-le_from_is_member nat_list_eq_equiv (unique_keys bytes_eq xs) (unique_keys bytes_eq ys) (IsDistinct-unique_keys xs) (λ q e.
    is_member-unique_keys-from ys q (is_member-from_among ys q (sub q (Among-from_is_member xs q (is_member-unique_keys xs q e)))))

-- ---- names without repeats

pub has_name-filter : (p : List ℕ → Bool) (ns : List (List ℕ)) (n : List ℕ) → has_name ns n ≡ false → has_name (filter p ns) n ≡ false
has_name-filter p [] n e = refl
has_name-filter p (m ∷ ns) n e = kept (p m) (bytes_eq m n) refl e (has_name-filter p ns n)
  where
    kept : (b c : Bool) → bytes_eq m n ≡ c → (c || has_name ns n) ≡ false → (has_name ns n ≡ false → has_name (filter p ns) n ≡ false)
        → has_name (cond b (m ∷ filter p ns) (filter p ns)) n ≡ false
    kept b true s k h = absurd (true≢false k)
    kept true false s k h = ap (λ c. c || has_name (filter p ns) n) s ∙ h k
    kept false false s k h = h k

pub is_distinct-filter : (p : List ℕ → Bool) (ns : List (List ℕ)) → is_distinct ns ≡ true → is_distinct (filter p ns) ≡ true
is_distinct-filter p [] e = e
is_distinct-filter p (n ∷ ns) e = kept (p n) (and_parts _ _ e).0 (is_distinct-filter p ns (and_parts (not (has_name ns n)) (is_distinct ns) e).1)
  where
    kept : (b : Bool) → not (has_name ns n) ≡ true → is_distinct (filter p ns) ≡ true → is_distinct (cond b (n ∷ filter p ns) (filter p ns)) ≡ true
    kept true new h = and_from (not (has_name (filter p ns) n)) (is_distinct (filter p ns)) (ap not (has_name-filter p ns n (not-true (has_name ns n) new))) h
    kept false new h = h
