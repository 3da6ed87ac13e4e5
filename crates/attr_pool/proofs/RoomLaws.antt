-- Laws on how many different names there are, and on when there is a slot for each.
use Rattle.std.proofs.Common.{◌≡◌, ℕ, zero, suc, ◌+◌, ◌-◌, ◌<◌, ◌≤◌, ◌==◌, Bool, true, false, not, ◌&&◌, ◌||◌, cond, nat_le, List, [], ◌∷◌, ◌++◌, length, get_or, take, drop, map, None, refl, sym, ◌∙◌, ap, subst, inl, inr, arith, add-one, bytes_eq, eq-eqb, eqb-true, ltb-true, lt-ltb}
use Rattle.std.proofs.Math.Seq.{drop-cons, take-length}
use Rattle.std.proofs.lemmas.Bool.{and_parts, and_from, both_ways, leb-true, not-true, false_from_ne_true, ltb-false}
use Rattle.std.proofs.lemmas.Bool.Decides.{nat_tests, eqb_tells}
use Rattle.std.proofs.lemmas.List.{length-drop}
use Rattle.std.proofs.lemmas.List.Folds.{list_any-append}
use Rattle.std.proofs.lemmas.List.Sums.{sum_by-cons, sum_by-take-le}
use Rattle.std.specs.List.{filter}
use Rattle.std.specs.Set.{is_member, unique_keys, distinct_count}
use Rattle.ctrl_model.specs.Matches.{has_name}
use Rattle.ctrl_model.specs.Membership.{Among}
use Rattle.ctrl_model.proofs.DistinctLaws.{Includes, distinct_count-Includes, is_member-from_among, Among-from_is_member, same_name, same_bytes}
use Rattle.ctrl_model.proofs.Members.{Among-append_left, Among-append_right, by_append, Among-filter, by_filter, Among-get_or, by_map, by_list_any, list_any-from_among}
use Rattle.attr_pool.specs.Moving.{is_new, leaves}
use Rattle.attr_pool.specs.Slots.{Slot, is_free, holds, slot_at, slot_of, held_count, most_slots, IsPool}
use Rattle.attr_pool.specs.Uses.{times, uses_of, held_names, stays_held, has_slots, AreInUse}
use Rattle.attr_pool.proofs.SlotLemmas.{none_holds}
use Rattle.attr_pool.proofs.UseLaws.{times-from_among, Among-from_times, held-from_uses, uses-from_held, uses-none}

-- ---- how many different names there are

-- two tests are one where each passes as the other does
same_tests : (a b : Bool) → (a ≡ true → b ≡ true) → (b ≡ true → a ≡ true) → a ≡ b
same_tests true true f g = refl
same_tests true false f g = sym (f refl)
same_tests false true f g = g refl
same_tests false false f g = refl

pub has_name-among : (q : List ℕ) (xs : List (List ℕ)) → has_name xs q ≡ true → Among q xs
has_name-among q xs e = by_list_any (λ n. bytes_eq n q) xs e (λ y m s. found (same_name y q s) m)
  where
    found : {y : List ℕ} → y ≡ q → Among y xs → Among q xs
    found s m = rw (← s) m

pub has_name-from_among : (q : List ℕ) (xs : List (List ℕ)) → Among q xs → has_name xs q ≡ true
has_name-from_among q xs m = list_any-from_among (λ n. bytes_eq n q) xs q m (same_bytes q q refl)

ones : {a b : Bool} → a ≡ b → ◌≡◌ {A = ℕ} (cond a 1 0) (cond b 1 0)
ones e = ap (λ b. cond b 1 0) e

zeros : {a b : Bool} → a ≡ b → ◌≡◌ {A = ℕ} (cond a 0 1) (cond b 0 1)
zeros e = ap (λ b. cond b 0 1) e

distinct-cons : (x : List ℕ) (xs : List (List ℕ)) → distinct_count bytes_eq (x ∷ xs) ≡ cond (is_member bytes_eq xs x) 0 1 + distinct_count bytes_eq xs
distinct-cons x xs = by (is_member bytes_eq xs x)
  where
    by : (b : Bool) → length (cond b (unique_keys bytes_eq xs) (x ∷ unique_keys bytes_eq xs)) ≡ cond b 0 1 + length (unique_keys bytes_eq xs)
    by true = omega arith
    by false = omega arith

-- names of two lists that have none in common
distinct-append : (xs ys : List (List ℕ)) → ((q : List ℕ) → Among q xs → Among q ys → ⊥) → distinct_count bytes_eq (xs ++ ys) ≡ distinct_count bytes_eq xs + distinct_count bytes_eq ys
distinct-append [] ys apart = omega arith
distinct-append (x ∷ xs) ys apart =
    let none : is_member bytes_eq ys x ≡ false = false_from_ne_true (is_member bytes_eq ys x) (λ e. apart x (inl refl) (Among-from_is_member ys x e)) in
    let member : is_member bytes_eq (xs ++ ys) x ≡ is_member bytes_eq xs x = list_any-append (bytes_eq x) xs ys ∙ ap (λ b. is_member bytes_eq xs x || b) none ∙ or_none (is_member bytes_eq xs x) in
    let one = zeros member in
    let left = distinct-cons x (xs ++ ys) in
    let right = distinct-cons x xs in
    let rest = distinct-append xs ys (λ q m. apart q (inr m)) in
    omega (arith, one, left, right, rest)
  where
    or_none : (b : Bool) → (b || false) ≡ b
    or_none true = refl
    or_none false = refl

-- a name counts where it passes and does not stand again
one_more : (test : List ℕ → Bool) (x : List ℕ) (xs : List (List ℕ))
    → distinct_count bytes_eq (filter test (x ∷ xs)) ≡ cond (not (has_name xs x) && test x) 1 0 + distinct_count bytes_eq (filter test xs)
one_more test x xs = by (test x) refl
  where
    member : is_member bytes_eq (filter test xs) x ≡ (has_name xs x && test x)
    member = same_tests (is_member bytes_eq (filter test xs) x) (has_name xs x && test x)
        (λ e. by_filter test xs x (Among-from_is_member (filter test xs) x e) (λ m p. and_from (has_name xs x) (test x) (has_name-from_among x xs m) p))
        (λ e. let both = and_parts (has_name xs x) (test x) e in is_member-from_among (filter test xs) x (Among-filter test xs x (has_name-among x xs both.0) both.1))

    passed : (b : Bool) → ◌≡◌ {A = ℕ} (cond (b && true) 0 1) (cond (not b && true) 1 0)
    passed true = refl
    passed false = refl

    failed : (b : Bool) → ◌≡◌ {A = ℕ} (cond (not b && false) 1 0) 0
    failed true = refl
    failed false = refl

    by : (b : Bool) → test x ≡ b
        → distinct_count bytes_eq (cond b (x ∷ filter test xs) (filter test xs)) ≡ cond (not (has_name xs x) && b) 1 0 + distinct_count bytes_eq (filter test xs)
    by true e =
        let whole = distinct-cons x (filter test xs) in
        let one = zeros (member ∙ ap (λ b. has_name xs x && b) e) in
        let turned = passed (has_name xs x) in
        omega (arith, whole, one, turned)
    by false e = let none = failed (has_name xs x) in omega (arith, none)

-- the name at a place adds one to a count of those that pass from there on where it does so and does not stand again
module _ (test : List ℕ → Bool) (names : List (List ℕ)) (at : ℕ) (x : List ℕ) (within : at < length names) (is : x ≡ get_or names at x) (last : Bool)
    (said : last ≡ (not (has_name (take (length names - (at + 1)) (drop (at + 1) names)) x) && test x)) where
  split : drop at names ≡ x ∷ drop (at + 1) names
  split = rw add-one (drop-cons names at x within ∙ ap (λ y. y ∷ drop (suc at) names) (sym is))

  whole : last ≡ (not (has_name (drop (at + 1) names) x) && test x)
  whole =
      said
      ∙ ap (λ rest. not (has_name rest x) && test x) (ap (λ n. take n (drop (at + 1) names)) (sym (length-drop (at + 1) names)) ∙ take-length (drop (at + 1) names))

  step : distinct_count bytes_eq (filter test (drop at names)) ≡ cond last 1 0 + distinct_count bytes_eq (filter test (drop (at + 1) names))
  step =
      ap (λ ns. distinct_count bytes_eq (filter test ns)) split
      ∙ one_more test x (drop (at + 1) names)
      ∙ ap (λ b. cond b 1 0 + distinct_count bytes_eq (filter test (drop (at + 1) names))) (sym whole)

  pub last_one : last ≡ true → distinct_count bytes_eq (filter test (drop at names)) ≡ 1 + distinct_count bytes_eq (filter test (drop (at + 1) names))
  last_one so = step ∙ ap (λ b. cond b 1 0 + distinct_count bytes_eq (filter test (drop (at + 1) names))) so

  pub not_last : last ≡ false → distinct_count bytes_eq (filter test (drop at names)) ≡ distinct_count bytes_eq (filter test (drop (at + 1) names))
  not_last so = let split_off = step in let none : ◌≡◌ {A = ℕ} (cond last 1 0) 0 = ones so in omega (arith, split_off, none)

-- ---- the names that are held

by_place : {P : Type 0} (xs : List Slot) (s : Slot) → Among s xs → ((i : ℕ) → i < length xs → slot_at xs i ≡ s → P) → P
by_place [] s m k = absurd m
by_place (x ∷ xs) s (inl e) k = k 0 (omega arith) e
by_place (x ∷ xs) s (inr m) k = by_place xs s m (λ i l e. k (suc i) (omega (arith, l)) e)

-- a name that is held has a slot
held_place : {P : Type 0} (q : List ℕ) (xs : List Slot) → Among q (held_names xs) → ((i : ℕ) → i < length xs → holds q (slot_at xs i) ≡ true → P) → P
held_place q xs m k =
    by_map (λ (s : Slot). s.name) (filter (λ s. not (is_free s)) xs) q m (λ s n e. by_filter (λ s. not (is_free s)) xs s n (λ a f. by_place xs s a (λ i l at.
    k i l (ap (holds q) at ∙ and_from (not (is_free s)) (bytes_eq s.name q) f (same_bytes s.name q e)))))

-- names of slots of which no two hold one name count once each
held-distinct : (xs : List Slot) → ((i j : ℕ) → i < length xs → j < length xs → (q : List ℕ) → holds q (slot_at xs i) ≡ true → holds q (slot_at xs j) ≡ true → i ≡ j)
    → distinct_count bytes_eq (held_names xs) ≡ held_count xs
held-distinct [] apart = refl
held-distinct (x ∷ xs) apart = by (is_free x) refl (held-distinct xs (λ i j l m q u v. let same = apart (suc i) (suc j) (omega (arith, l)) (omega (arith, m)) q u v in omega (arith, same)))
  where
    parts : held_count (x ∷ xs) ≡ cond (not (is_free x)) 1 0 + held_count xs
    parts = sum_by-cons (λ s. cond (not (is_free s)) 1 0) x xs

    mine : is_free x ≡ false → holds x.name x ≡ true
    mine e = and_from (not (is_free x)) (bytes_eq x.name x.name) (ap not e) (same_bytes x.name x.name refl)

    new : is_free x ≡ false → is_member bytes_eq (held_names xs) x.name ≡ true → ⊥
    new e m = held_place x.name xs (Among-from_is_member (held_names xs) x.name m)
        (λ j l h. let same = apart 0 (suc j) (omega arith) (omega (arith, l)) x.name (mine e) h in absurd (omega (arith, same)))

    by : (b : Bool) → is_free x ≡ b → distinct_count bytes_eq (held_names xs) ≡ held_count xs
        → distinct_count bytes_eq (map (λ (s : Slot). s.name) (cond (not b) (x ∷ filter (λ s. not (is_free s)) xs) (filter (λ s. not (is_free s)) xs))) ≡ held_count (x ∷ xs)
    by true e h = let none : ◌≡◌ {A = ℕ} (cond (not (is_free x)) 1 0) 0 = ones (ap not e) in omega (arith, h, parts, none)
    by false e h =
        let one : ◌≡◌ {A = ℕ} (cond (not (is_free x)) 1 0) 1 = ones (ap not e) in
        let whole = distinct-cons x.name (held_names xs) in
        let first : ◌≡◌ {A = ℕ} (cond (is_member bytes_eq (held_names xs) x.name) 0 1) 1 = zeros (false_from_ne_true (is_member bytes_eq (held_names xs) x.name) (new e)) in
        omega (arith, h, parts, one, whole, first)

-- ---- what a change makes of the number of names

module _ (xs : List Slot) (pool : IsPool xs) (gone fresh : List (List ℕ)) (used : AreInUse xs gone) where
  abbrev pub stay : List (List ℕ)
  stay = filter (stays_held xs gone fresh) (held_names xs ++ fresh)

  abbrev pub go : List (List ℕ)
  go = filter (leaves xs gone fresh) gone

  abbrev pub come : List (List ℕ)
  come = filter (is_new xs) fresh

  leaving : (q : List ℕ) → leaves xs gone fresh q ≡ true → (uses_of q xs ≡ times q gone) × (times q fresh ≡ 0)
  leaving q e =
      let both = and_parts (uses_of q xs == times q gone) (not (has_name fresh q)) e in
      (eqb-true (uses_of q xs) (times q gone) both.0, zero_from_none q (not-true (has_name fresh q) both.1))
    where
      none_left : (n : ℕ) → (0 < n → ⊥) → n ≡ 0
      none_left zero f = refl
      none_left (suc n) f = absurd (f (omega arith))

      zero_from_none : (q : List ℕ) → has_name fresh q ≡ false → times q fresh ≡ 0
      zero_from_none q e = none_left (times q fresh) (λ some. both_ways (has_name fresh q) e (has_name-from_among q fresh (Among-from_times q fresh some)))

  apart_stay : (q : List ℕ) → Among q stay → Among q go → ⊥
  apart_stay q m n =
      by_filter (stays_held xs gone fresh) (held_names xs ++ fresh) q m (λ _ s. by_filter (leaves xs gone fresh) gone q n (λ _ l.
      let more : times q gone < uses_of q xs + times q fresh = ltb-true (times q gone) (uses_of q xs + times q fresh) s in
      let all = leaving q l in
      absurd (omega (arith, more, all.0, all.1))))

  apart_held : (q : List ℕ) → Among q (held_names xs) → Among q come → ⊥
  apart_held q m n =
      by_filter (is_new xs) fresh q n (λ _ e.
      let none : uses_of q xs ≡ 0 = eqb-true (uses_of q xs) 0 e in
      let some = uses-from_held q xs m in
      absurd (omega (arith, none, some)))

  there : Includes (stay ++ go) (held_names xs ++ come)
  there q m = by_append stay go q m
      (λ n. by_filter (stays_held xs gone fresh) (held_names xs ++ fresh) q n (λ a _. by_append (held_names xs) fresh q a (Among-append_left (held_names xs) come q) named))
      (λ n. by_filter (leaves xs gone fresh) gone q n (λ a l.
      let all = leaving q l in
      let some = times-from_among q gone a in
      Among-append_left (held_names xs) come q (held-from_uses q xs (omega (arith, all.0, some)))))
    where
      named : Among q fresh → Among q (held_names xs ++ come)
      named a = elim (eqb_tells (uses_of q xs) 0) [
        | inl t ↦ Among-append_right (held_names xs) come q (Among-filter (is_new xs) fresh q a t.0)
        | inr t ↦ let other = t.1 in Among-append_left (held_names xs) come q (held-from_uses q xs (omega (arith, other)))
      ]

  back : Includes (held_names xs ++ come) (stay ++ go)
  back q m = by_append (held_names xs) come q m (λ a. held a (stays_held xs gone fresh q) refl) (λ n. by_filter (is_new xs) fresh q n new)
    where
      held : Among q (held_names xs) → (b : Bool) → stays_held xs gone fresh q ≡ b → Among q (stay ++ go)
      held a true e = Among-append_left stay go q (Among-filter (stays_held xs gone fresh) (held_names xs ++ fresh) q (Among-append_left (held_names xs) fresh q a) e)
      held a false e =
          let some = uses-from_held q xs a in
          let enough = used q in
          let all : uses_of q xs + times q fresh ≤ times q gone = ltb-false (times q gone) (uses_of q xs + times q fresh) e in
          let same : uses_of q xs ≡ times q gone = omega (arith, enough, all) in
          let none : times q fresh ≡ 0 = omega (arith, enough, all) in
          let absent : has_name fresh q ≡ false = false_from_ne_true (has_name fresh q) (λ f. let one = times-from_among q fresh (has_name-among q fresh f) in absurd (omega (arith, one, none))) in
          let leaves_now : leaves xs gone fresh q ≡ true = and_from (uses_of q xs == times q gone) (not (has_name fresh q)) (eq-eqb (uses_of q xs) (times q gone) same) (ap not absent) in
          Among-append_right stay go q (Among-filter (leaves xs gone fresh) gone q (Among-from_times q gone (omega (arith, some, same))) leaves_now)

      new : Among q fresh → is_new xs q ≡ true → Among q (stay ++ go)
      new a e =
          let none : uses_of q xs ≡ 0 = eqb-true (uses_of q xs) 0 e in
          let enough = used q in
          let some = times-from_among q fresh a in
          let more : times q gone < uses_of q xs + times q fresh = omega (arith, none, enough, some) in
          Among-append_left stay go q (Among-filter (stays_held xs gone fresh) (held_names xs ++ fresh) q (Among-append_right (held_names xs) fresh q a) (lt-ltb (times q gone) (uses_of q xs + times q fresh) more))

  -- those that stay and those that leave are those that were held and the new ones
  pub moved : distinct_count bytes_eq stay + distinct_count bytes_eq go ≡ held_count xs + distinct_count bytes_eq come
  moved =
      let left = distinct-append stay go apart_stay in
      let right = distinct-append (held_names xs) come apart_held in
      let held = held-distinct xs pool.apart in
      let most = distinct_count-Includes (stay ++ go) (held_names xs ++ come) there in
      let least = distinct_count-Includes (held_names xs ++ come) (stay ++ go) back in
      omega (arith, left, right, held, most, least)

  -- so a count of these tells whether there is a slot for each
  pub slots_told : nat_le (held_count xs + distinct_count bytes_eq come) (4096 + distinct_count bytes_eq go) ≡ has_slots xs gone fresh
  slots_told = told (held_count xs) (distinct_count bytes_eq come) (distinct_count bytes_eq stay) (distinct_count bytes_eq go) moved
    where
      told : (a b c d : ℕ) → c + d ≡ a + b → nat_le (a + b) (4096 + d) ≡ nat_le c 4096
      told a b c d e = grind (arith, nat_tests)

-- ---- a slot for each of the names that come

-- where there is a slot for each, not all are held when the next name is new
pub slot_left : (old now : List Slot) (names : List (List ℕ)) (i : ℕ) (name : List ℕ) → IsPool now → has_slots old [] names ≡ true
    → ((q : List ℕ) → uses_of q now ≡ uses_of q old + times q (take i names)) → i < length names → name ≡ get_or names i name
    → (slot_of name now ≡ None) × (held_count now ≡ most_slots) → ⊥
slot_left old now names i name pool room so_far within is full =
    let more = distinct-cons name (held_names now) in
    let one : ◌≡◌ {A = ℕ} (cond (is_member bytes_eq (held_names now) name) 0 1) 1 = zeros (false_from_ne_true (is_member bytes_eq (held_names now) name) (λ e. new (uses-from_held name now (Among-from_is_member (held_names now) name e)))) in
    let held = held-distinct now pool.apart in
    let most = leb-true (distinct_count bytes_eq kept) 4096 room in
    let sub = distinct_count-Includes (name ∷ held_names now) kept there in
    let all = full.1 in
    absurd (omega (arith, more, one, held, most, sub, all))
  where
    kept : List (List ℕ)
    kept = filter (stays_held old [] names) (held_names old ++ names)

    new : 0 < uses_of name now → ⊥
    new some = let none = uses-none name now (none_holds name now full.0) in absurd (omega (arith, none, some))

    either : (q : List ℕ) → 0 < uses_of q old + times q names → Among q (held_names old ++ names)
    either q h = elim (eqb_tells (uses_of q old) 0) [
      | inl t ↦ let none = t.1 in Among-append_right (held_names old) names q (Among-from_times q names (omega (arith, h, none)))
      | inr t ↦ let other = t.1 in Among-append_left (held_names old) names q (held-from_uses q old (omega (arith, other)))
    ]

    stays : (q : List ℕ) → 0 < uses_of q old + times q names → Among q kept
    stays q h = Among-filter (stays_held old [] names) (held_names old ++ names) q (either q h) (lt-ltb 0 (uses_of q old + times q names) h)

    there : Includes (name ∷ held_names now) kept
    there q (inl e) =
        let some = times-from_among q names (subst (λ n. Among n names) (sym is ∙ e) (Among-get_or names i name within)) in stays q (omega (arith, some))
    there q (inr m) =
        let some = uses-from_held q now m in
        let parts = so_far q in
        let within_all = sum_by-take-le (λ n. cond (bytes_eq n q) 1 0) names i in
        stays q (omega (arith, some, parts, within_all))
