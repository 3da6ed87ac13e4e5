-- Records that are gone, by their numbers: taken away one after the other, and those that a test does not pass.
use Rattle.std.proofs.Common.{◌≡◌, ℕ, ◌+◌, ◌<◌, ◌==◌, nat_lt, Bool, true, false, cond, not, ◌&&◌, ◌||◌, List, [], ◌∷◌, ◌++◌, is_some, Option, None, Some, Bor, inl, inr, refl, sym, ◌∙◌, ap, ap₂, arith, subst, lt_of_lt_of_le, ◌↔◌, ◌⊎◌}
use Rattle.std.proofs.lemmas.Bool.{false≢true}
use Rattle.std.proofs.lemmas.Bool.Decides.{nat_tests}
use Rattle.std.proofs.lemmas.List.Elements.{filter_agree}
use Rattle.std.proofs.lemmas.Option.{none-some}
use Rattle.std.specs.List.{filter, AllByRecursion}
use Rattle.std.specs.Option.{option_map, unwrap_or}
use Rattle.ctrl_model.specs.Membership.{Among}
use Rattle.ctrl_model.specs.Numbered.{Table, at, numbers, without, with_removed, with_kept, Between}
use Rattle.ctrl_model.specs.Walks.{is_among}
use Rattle.ctrl_model.proofs.Members.{Among-map, by_map, by_filter, Among-filter, Among-append_left, Among-append_right, by_append, is_among-from, Among-from_test}
use Rattle.ctrl_model.proofs.NumberedLaws.{Between-filter}
use Rattle.record_tables.specs.AfterChange.{without_numbers, with_number, touched_numbers}
use Rattle.record_tables.specs.Climbing.{Climbs}
use Rattle.record_tables.proofs.NumberLoops.{at_among}

-- ---- filters

pub filter_among : {X : Type 0} (p q : X → Bool) (xs : List X) → ((x : X) → Among x xs → p x ≡ q x) → filter p xs ≡ filter q xs
filter_among p q [] h = refl
filter_among p q (x ∷ xs) h = ap₂ (λ c ys. cond c (x ∷ ys) ys) (h x (inl refl)) (filter_among p q xs (λ y m. h y (inr m)))

pub filter_all : {X : Type 0} (xs : List X) → filter (λ _. true) xs ≡ xs
filter_all [] = refl
filter_all (x ∷ xs) = ap (λ ys. x ∷ ys) (filter_all xs)

pub filter_twice : {X : Type 0} (p q : X → Bool) (xs : List X) → filter p (filter q xs) ≡ filter (λ x. q x && p x) xs
filter_twice p q [] = refl
filter_twice p q (x ∷ xs) = by (q x) (filter_twice p q xs)
  where
    by : (c : Bool) → filter p (filter q xs) ≡ filter (λ y. q y && p y) xs
        → filter p (cond c (x ∷ filter q xs) (filter q xs)) ≡ cond (c && p x) (x ∷ filter (λ y. q y && p y) xs) (filter (λ y. q y && p y) xs)
    by true e = ap (λ ys. cond (p x) (x ∷ ys) ys) e
    by false e = e

-- ---- one number after the other

pub among-append : (n m : ℕ) (ns : List ℕ) → is_among n (ns ++ m ∷ []) ≡ (is_among n ns || (n == m))
among-append n m [] = by (m == n) (n == m) refl refl
  where
    by : (c d : Bool) → (m == n) ≡ c → (n == m) ≡ d → (c || false) ≡ d
    by true true p q = refl
    by false false p q = refl
    by true false p q = absurd (grind (arith, nat_tests))
    by false true p q = absurd (grind (arith, nat_tests))
among-append n m (k ∷ ns) = ap (λ b. (k == n) || b) (among-append n m ns) ∙ by (k == n) (is_among n ns) (n == m)
  where
    by : (a b c : Bool) → (a || (b || c)) ≡ ((a || b) || c)
    by true b c = refl
    by false b c = refl

module _ {R : Type 0} where
  -- a number that has no record takes none away
  pub without-absent : (xs : List (ℕ × R)) (n : ℕ) → at xs n ≡ None → without xs n ≡ xs
  without-absent [] n h = refl
  without-absent (x ∷ xs) n h = by (x.0 == n) h (without-absent xs n)
    where
      by : (c : Bool) → cond c (Some x.1) (at xs n) ≡ None → (at xs n ≡ None → without xs n ≡ xs) → cond (not c) (x ∷ without xs n) (without xs n) ≡ x ∷ xs
      by true e k = absurd (none-some x.1 (sym e))
      by false e k = ap (λ ys. x ∷ ys) (k e)

  -- the same where a look-up found nothing
  pub removed_absent : (t : Table R) (n : ℕ) (o : Option (Bor R)) → option_map (λ r. r.now) o ≡ at t.rows n → is_some o ≡ false → t ≡ with_removed n t
  removed_absent t n o found e = ap (λ rows. record t { rows = rows }) (sym (without-absent t.rows n (by o found e)))
    where
      by : (o : Option (Bor R)) → option_map (λ r. r.now) o ≡ at t.rows n → is_some o ≡ false → at t.rows n ≡ None
      by None f e = sym f
      by (Some r) f e = absurd (false≢true (sym e))

  pub gone_none : (t : Table R) → t ≡ without_numbers [] t
  gone_none t = ap (λ rows. record t { rows = rows }) (sym (filter_all t.rows))

  pub gone_more : (t : Table R) (ns : List ℕ) (m : ℕ) → with_removed m (without_numbers ns t) ≡ without_numbers (ns ++ m ∷ []) t
  gone_more t ns m =
      ap (λ rows. record t { rows = rows })
      (filter_twice (λ (row : ℕ × R). not (row.0 == m)) (λ row. not (is_among row.0 ns)) t.rows
      ∙ filter_agree _ (λ (row : ℕ × R). not (is_among row.0 (ns ++ m ∷ []))) (λ row. by (is_among row.0 ns) (row.0 == m) ∙ ap not (sym (among-append row.0 m ns))) t.rows)
    where
      by : (a b : Bool) → (not a && not b) ≡ not (a || b)
      by true b = refl
      by false b = refl

  -- ---- the numbers of those that do not pass a test

  pub kept : (p : ℕ × R → Bool) (t : Table R) (high : ℕ) → Between 1 high t.rows → with_kept p t ≡ without_numbers (numbers (filter (λ row. not (p row)) t.rows)) t
  kept p t high b =
      ap (λ rows. record t { rows = rows })
      (filter_among p (λ row. not (is_among row.0 (numbers (filter (λ y. not (p y)) t.rows)))) t.rows (λ x m.
      by x m (p x) (is_among x.0 (numbers (filter (λ y. not (p y)) t.rows))) refl refl))
    where
      same : (x y : ℕ × R) → Among x t.rows → Among y t.rows → y.0 ≡ x.0 → y ≡ x
      same x y m k e =
          let one = at_among high t.rows 1 x.0 x.1 b m in
          let other = at_among high t.rows 1 y.0 y.1 b k in
          λ j. (e j, ap (λ o. unwrap_or o y.1) (sym other ∙ ap (at t.rows) e ∙ one) j)

      by : (x : ℕ × R) → Among x t.rows → (c d : Bool) → p x ≡ c → is_among x.0 (numbers (filter (λ y. not (p y)) t.rows)) ≡ d → c ≡ not d
      by x m true false e f = refl
      by x m false true e f = refl
      by x m true true e f =
          absurd (by_map (λ (y : ℕ × R). y.0) (filter (λ y. not (p y)) t.rows) x.0 (Among-from_test x.0 (numbers (filter (λ y. not (p y)) t.rows)) f) (λ y k g.
          by_filter (λ y. not (p y)) t.rows y k (λ among fails. false≢true (ap not (sym (ap p (same x y m among g) ∙ e)) ∙ fails))))
      by x m false false e f =
          absurd (false≢true (sym f ∙ is_among-from x.0 (numbers (filter (λ y. not (p y)) t.rows)) (Among-map (λ (y : ℕ × R). y.0) (filter (λ y. not (p y)) t.rows) x (Among-filter (λ y. not (p y)) t.rows x m (ap not e)))))

  -- ---- the numbers of records climb

  pub All-numbers : (high : ℕ) (rows : List (ℕ × R)) (low n : ℕ) → Between low high rows → n < low → AllByRecursion (λ m. n < m) (numbers rows)
  All-numbers high [] low n b h = tt
  All-numbers high (x ∷ xs) low n b h = (lt_of_lt_of_le h b.0, All-numbers high xs (x.0 + 1) n b.2 (omega arith))

  pub Climbs-numbers : (high : ℕ) (rows : List (ℕ × R)) (low : ℕ) → Between low high rows → Climbs (λ n. n) (numbers rows)
  Climbs-numbers high [] low b = tt
  Climbs-numbers high (x ∷ xs) low b = (All-numbers high xs (x.0 + 1) x.0 b.2 (omega arith), Climbs-numbers high xs (x.0 + 1) b.2)

  pub gone_climb : (p : ℕ × R → Bool) (t : Table R) (high : ℕ) → Between 1 high t.rows → Climbs (λ n. n) (numbers (filter (λ row. not (p row)) t.rows))
  gone_climb p t high b = Climbs-numbers high (filter (λ row. not (p row)) t.rows) 1 (Between-filter (λ row. not (p row)) high t.rows 1 b)

-- ---- touched numbers

among_with : (n m : ℕ) (ns : List ℕ) → Among n (with_number m ns) → (m ≡ n) ⊎ Among n ns
among_with n m ns a =
    by_append (filter (λ k. nat_lt k m) ns) (m ∷ filter (λ k. nat_lt m k) ns) n a
    (λ below. by_filter (λ k. nat_lt k m) ns n below (λ among _. inr among))
    (λ rest. by rest)
  where
    by : Among n (m ∷ filter (λ k. nat_lt m k) ns) → (m ≡ n) ⊎ Among n ns
    by (inl e) = inl e
    by (inr above) = by_filter (λ k. nat_lt m k) ns n above (λ among _. inr among)

with_itself : (m : ℕ) (ns : List ℕ) → Among m (with_number m ns)
with_itself m ns = Among-append_right (filter (λ k. nat_lt k m) ns) (m ∷ filter (λ k. nat_lt m k) ns) m (inl refl)

with_others : (n m : ℕ) (ns : List ℕ) → Among n ns → Among n (with_number m ns)
with_others n m ns a = by (nat_lt n m) (nat_lt m n) refl refl
  where
    by : (c d : Bool) → nat_lt n m ≡ c → nat_lt m n ≡ d → Among n (with_number m ns)
    by true d e f = Among-append_left (filter (λ k. nat_lt k m) ns) (m ∷ filter (λ k. nat_lt m k) ns) n (Among-filter (λ k. nat_lt k m) ns n a e)
    by false true e f = Among-append_right (filter (λ k. nat_lt k m) ns) (m ∷ filter (λ k. nat_lt m k) ns) n (inr (Among-filter (λ k. nat_lt m k) ns n a f))
    by false false e f =
        let same : m ≡ n = grind (arith, nat_tests) in
        subst (λ k. Among k (with_number m ns)) same (with_itself m ns)

some_same : (m n : ℕ) → Some m ≡ Some n → m ≡ n
some_same m n e = ap (λ o. unwrap_or o m) e

pub touched_are : (n : ℕ) (changed : Option ℕ) (gone : List ℕ) → Among n (touched_numbers changed gone) ↔ ((changed ≡ Some n) ⊎ Among n gone)
touched_are n None gone = (λ a. inr a, back)
  where
    back : (None ≡ Some n) ⊎ Among n gone → Among n gone
    back (inl e) = absurd (none-some n e)
    back (inr a) = a
touched_are n (Some m) gone = (λ a. to (among_with n m gone a), back)
  where
    to : (m ≡ n) ⊎ Among n gone → (Some m ≡ Some n) ⊎ Among n gone
    to (inl e) = inl (ap Some e)
    to (inr a) = inr a

    back : (Some m ≡ Some n) ⊎ Among n gone → Among n (with_number m gone)
    back (inl e) = subst (λ k. Among k (with_number m gone)) (some_same m n e) (with_itself m gone)
    back (inr a) = with_others n m gone a

All-filter : {X : Type 0} (P : X → Type 0) (p : X → Bool) (xs : List X) → AllByRecursion P xs → AllByRecursion P (filter p xs)
All-filter P p [] h = tt
All-filter P p (x ∷ xs) h = by (p x) (All-filter P p xs h.1)
  where
    by : (c : Bool) → AllByRecursion P (filter p xs) → AllByRecursion P (cond c (x ∷ filter p xs) (filter p xs))
    by true k = (h.0, k)
    by false k = k

Climbs-filter : (p : ℕ → Bool) (ns : List ℕ) → Climbs (λ n. n) ns → Climbs (λ n. n) (filter p ns)
Climbs-filter p [] h = tt
Climbs-filter p (n ∷ ns) h = by (p n) (Climbs-filter p ns h.1)
  where
    by : (c : Bool) → Climbs (λ n. n) (filter p ns) → Climbs (λ n. n) (cond c (n ∷ filter p ns) (filter p ns))
    by true k = (All-filter (λ m. n < m) p ns h.0, k)
    by false k = k

All-passing : (P : ℕ → Type 0) (p : ℕ → Bool) (ns : List ℕ) → ((n : ℕ) → p n ≡ true → P n) → AllByRecursion P (filter p ns)
All-passing P p [] h = tt
All-passing P p (n ∷ ns) h = by (p n) refl (All-passing P p ns h)
  where
    by : (c : Bool) → p n ≡ c → AllByRecursion P (filter p ns) → AllByRecursion P (cond c (n ∷ filter p ns) (filter p ns))
    by true e k = (h n e, k)
    by false e k = k

-- numbers below one, that one, and numbers above it
Climbs-joined : (m : ℕ) (xs ys : List ℕ) → Climbs (λ n. n) xs → AllByRecursion (λ n. n < m) xs → Climbs (λ n. n) ys → AllByRecursion (λ n. m < n) ys → Climbs (λ n. n) (xs ++ (m ∷ ys))
Climbs-joined m [] ys cx ax cy ay = (ay, cy)
Climbs-joined m (x ∷ xs) ys cx ax cy ay = (front xs cx.0, Climbs-joined m xs ys cx.1 ax.1 cy ay)
  where
    above : (zs : List ℕ) → AllByRecursion (λ n. m < n) zs → AllByRecursion (λ n. x < n) zs
    above [] h = tt
    above (z ∷ zs) h = (lt_trans_of ax.0 h.0, above zs h.1)
      where
        lt_trans_of : x < m → m < z → x < z
        lt_trans_of a b = omega arith

    front : (zs : List ℕ) → AllByRecursion (λ n. x < n) zs → AllByRecursion (λ n. x < n) (zs ++ (m ∷ ys))
    front [] h = (ax.0, above ys ay)
    front (z ∷ zs) h = (h.0, front zs h.1)

below_is : (n m : ℕ) → nat_lt n m ≡ true → n < m
below_is n m e = grind (arith, nat_tests)

pub touched_climb : (changed : Option ℕ) (gone : List ℕ) → Climbs (λ n. n) gone → Climbs (λ n. n) (touched_numbers changed gone)
touched_climb None gone h = h
touched_climb (Some m) gone h =
    Climbs-joined m (filter (λ k. nat_lt k m) gone) (filter (λ k. nat_lt m k) gone) (Climbs-filter (λ k. nat_lt k m) gone h)
    (All-passing (λ n. n < m) (λ k. nat_lt k m) gone (λ n. below_is n m))
    (Climbs-filter (λ k. nat_lt m k) gone h)
    (All-passing (λ n. m < n) (λ k. nat_lt m k) gone (λ n. below_is m n))
