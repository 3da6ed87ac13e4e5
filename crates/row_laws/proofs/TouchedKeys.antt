-- Covers of one table by the changes at the keys that can differ: of the next numbers, the setting, the records of a kind and the
-- counts of a relation, and what each change of a table of records touches.
use Rattle.std.proofs.Common.{◌≡◌, ℕ, ◌+◌, ◌<◌, ◌≤◌, ◌==◌, ◌&&◌, inl, inr, nat_le, Bool, true, false, not, cond, List, [], ◌∷◌, map, find, filter, Option, None, Some, option_map, option_and_then, refl, sym, ◌∙◌, ap, subst, arith, eqb-true, Less, is_eq, le_trans, le_of_lt}
use Rattle.std.proofs.lemmas.Bool.{and_parts, and_from, cond-true, cond-false, both_ways, false_from_ne_true, or_left, or_right, false≢true}
use Rattle.std.proofs.lemmas.Cmp.{tied_itself}
use Rattle.std.specs.Ordering.{ordering_then}
use Rattle.std.specs.List.{AllByRecursion, list_all}
use Rattle.ctrl_model.specs.declared.formats.Format.{Format}
use Rattle.ctrl_model.specs.declared.formats.Format.TheVariants.{Two}
use Rattle.ctrl_model.specs.declared.kinds.Kind.{Kind}
use Rattle.ctrl_model.specs.declared.kinds.Kind.TheVariants as kind
use Rattle.ctrl_model.specs.declared.kinds.Relation.{Relation}
use Rattle.ctrl_model.specs.declared.kinds.Relation.TheVariants.{Dial, Bind, IdentityRouter, ServiceRouter}
use Rattle.ctrl_model.specs.Limits.{last_next}
use Rattle.ctrl_model.specs.Membership.{Among}
use Rattle.ctrl_model.specs.Numbered.{Table, at, Between, numbers, with_new, with_edit, with_removed, with_each, with_kept}
use Rattle.ctrl_model.specs.State.{State}
use Rattle.ctrl_model.specs.Tables.{Record, table}
use Rattle.ctrl_model.specs.Grants.{count}
use Rattle.ctrl_model.proofs.Members.{find_passes}
use Rattle.ctrl_model.proofs.NumberedLaws.{at-with_last-other, at-edit_at-other, at-without-other, at-map_each, Between-filter}
use Rattle.row_codec.specs.RowKeys.{RowTable, Key, kinds, kind_number, key_cmp, key_in, is_key, is_long, table_number}
use Rattle.row_codec.specs.RowKeys.RowTable.{Next, Setting, Records, Counts, Intercepts, Serial}
use Rattle.row_codec.specs.RowValues.{record_value, intercept_value}
use Rattle.row_codec.specs.RowDifference.{Rises}
use Rattle.row_codec.specs.StateRows.{next_value, setting_value, serial_value, count_value, row_in}
use Rattle.row_codec.specs.CoveredTables.{Covers, LiesIn, change_at, has_key}
use Rattle.row_laws.specs.ChangedKeys.{Climbs, pair_cmp, next_changes, setting_change, record_changes, count_changes, intercept_changes, serial_change, gone}
use Rattle.row_laws.proofs.RisingRows.{Above, All-each, All-map}
use Rattle.row_laws.proofs.KeyOrders.{key_total, less_by_first, nat_cmp-equal, long_upto}
use Rattle.record_tables.specs.AfterChange.{touched_numbers, without_numbers}
use Rattle.record_tables.specs.declared.turns.Turn.{Turn}
use Rattle.record_tables.specs.Turns.{turned_number, turned_table}
use Rattle.record_tables.proofs.GoneLaws.{Climbs-numbers, touched_climb}
use Rattle.record_tables.proofs.TurnLaws.{elsewhere, untouched-turned}
use Rattle.row_laws.proofs.TableRows.{row_at-table, has_number, kind_has_number, lies_in_one}
use Rattle.row_laws.proofs.Covers.{paired}

-- ---- keys that are made of things

module _ {X : Type 0} (f : X → Key) where
  map_twice : {Y : Type 0} (g : Key → Y) (xs : List X) → map (λ x. g (f x)) xs ≡ map g (map f xs)
  map_twice g [] = refl
  map_twice g (x ∷ xs) = λ i. g (f x) ∷ map_twice g xs i

  has_key-among : (xs : List X) (x : X) (q : Key) → Among x xs → f x ≡ q → has_key (map f xs) q ≡ true
  has_key-among [] x q m e = absurd m
  has_key-among (y ∷ ys) x q (inl s) e =
      or_left (is_eq (key_cmp (f y) q)) (has_key (map f ys) q) (ap (λ k. is_eq (key_cmp k q)) (ap f s ∙ e) ∙ ap is_eq (tied_itself key_total q))
  has_key-among (y ∷ ys) x q (inr m) e = or_right (is_eq (key_cmp (f y) q)) (has_key (map f ys) q) (has_key-among ys x q m e)

  not_among : (xs : List X) (x : X) (q : Key) → has_key (map f xs) q ≡ false → f x ≡ q → Among x xs → ⊥
  not_among xs x q misses e m = both_ways (has_key (map f xs) q) misses (has_key-among xs x q m e)

  all_keys : (test : X → Bool) → ((x : X) → test x ≡ true → is_key (f x) ≡ true) → (xs : List X) → list_all test xs ≡ true → list_all is_key (map f xs) ≡ true
  all_keys test h [] e = refl
  all_keys test h (x ∷ xs) e =
      let parts = and_parts (test x) (list_all test xs) e in and_from (is_key (f x)) (list_all is_key (map f xs)) (h x parts.0) (all_keys test h xs parts.1)

  climbing_above : (g : X → ℕ) → ((x y : X) → g x < g y → key_cmp (f x) (f y) ≡ Less) → (x : X) (xs : List X) → AllByRecursion (λ y. g x < g y) xs
      → Above key_cmp (f x) (paired (map f xs))
  climbing_above g h x [] a = tt
  climbing_above g h x (y ∷ ys) a = (h x y a.0, climbing_above g h x ys a.1)

  climbing_rises : (g : X → ℕ) → ((x y : X) → g x < g y → key_cmp (f x) (f y) ≡ Less) → (xs : List X) → Climbs g xs → Rises key_cmp (paired (map f xs))
  climbing_rises g h [] c = tt
  climbing_rises g h (x ∷ xs) c = (climbing_above g h x xs c.0, climbing_rises g h xs c.1)

  -- a cover of one table by the changes at such keys
  made_cover : (format : Format) (u : RowTable) → has_number format u ≡ true → ((x : X) → (f x).0 ≡ table_number u) → (s t : State) (xs : List X) → Rises key_cmp (paired (map f xs))
      → list_all is_key (map f xs) ≡ true
      → ((q : Key) → q.0 ≡ table_number u → has_key (map f xs) q ≡ false → row_in format u s q.1 q.2 ≡ row_in format u t q.1 q.2)
      → Covers format (table_number u) (table_number u + 1) s t (map (λ x. change_at format s t (f x)) xs)
  made_cover format u has of_table s t xs rises fits others = record {
    keys = map f xs;
    named = map_twice (change_at format s t) xs;
    rises = rises;
    fits = fits;
    within = All-map (LiesIn (table_number u) (table_number u + 1)) f xs
        (All-each (λ x. LiesIn (table_number u) (table_number u + 1) (f x)) (λ x. lies (table_number u) (f x).0 (of_table x)) xs);
    others = λ q l misses.
        let is = lies_in_one (table_number u) q.0 l.0 l.1 in row_at-table format u has s q is ∙ others q is misses ∙ sym (row_at-table format u has t q is);
  }
    where
      lies : (n m : ℕ) → m ≡ n → (n ≤ m) × (m < n + 1)
      lies n m e = (omega arith, omega arith)

-- ---- next numbers

next_key : (k : Kind) → nat_le 1 (kind_number k) ≡ true → is_key (key_in Next (kind_number k) 0) ≡ true
next_key kind.Identity h = refl
next_key kind.Service h = refl
next_key kind.Router h = refl
next_key kind.Link h = refl
next_key kind.ServicePolicy h = refl
next_key kind.EdgeRouterPolicy h = refl
next_key kind.ServiceEdgeRouterPolicy h = refl
next_key kind.Terminator h = refl
next_key kind.Circuit h = refl
next_key kind.Attribute h = absurd (false≢true h)

pub Covers-next : (format : Format) (s t : State) (ks : List Kind) → Climbs kind_number ks → list_all (λ k. nat_le 1 (kind_number k)) ks ≡ true
    → ((k : Kind) → (Among k ks → ⊥) → (table k s).next ≡ (table k t).next) → Covers format 1 2 s t (next_changes format s t ks)
Covers-next format s t ks climbs numbered same =
    made_cover f format Next refl (λ k. refl) s t ks (climbing_rises f kind_number (λ x y l. less_by_first (f x) (f y) refl l) ks climbs)
    (all_keys f (λ k. nat_le 1 (kind_number k)) next_key ks numbered)
    (λ q e misses. by q e misses (q.2 == 0) refl (find (λ k. kind_number k == q.1) kinds) refl)
  where
    f : Kind → Key
    f k = key_in Next (kind_number k) 0

    by : (q : Key) → q.0 ≡ 1 → has_key (map f ks) q ≡ false → (b : Bool) → (q.2 == 0) ≡ b → (o : Option Kind) → find (λ k. kind_number k == q.1) kinds ≡ o
        → cond b (option_and_then (λ k. next_value (table k s).next) o) None ≡ cond b (option_and_then (λ k. next_value (table k t).next) o) None
    by q e misses false is o found = refl
    by q e misses true is None found = refl
    by q e misses true is (Some k) found =
        let number = eqb-true (kind_number k) q.1 (find_passes (λ j. kind_number j == q.1) kinds k found) in
        let zero = eqb-true q.2 0 is in
        ap next_value (same k (not_among f ks k q misses (λ i. (sym e i, number i, sym zero i))))

-- ---- the setting

pub Covers-setting : (format : Format) (s t : State) → Covers format 2 3 s t (setting_change format s t ∷ [])
Covers-setting format s t =
    made_cover (λ (x : ℕ). key_in Setting 0 0) format Setting refl (λ x. refl) s t (0 ∷ []) (tt, tt) refl (λ q e misses. by q e misses (q.1 == 0) (q.2 == 0) refl refl)
  where
    by : (q : Key) → q.0 ≡ 2 → has_key (map (λ (x : ℕ). key_in Setting 0 0) (0 ∷ [])) q ≡ false → (b c : Bool) → (q.1 == 0) ≡ b → (q.2 == 0) ≡ c
        → cond (b && c) (setting_value s.least_router_cost) None ≡ cond (b && c) (setting_value t.least_router_cost) None
    by q e misses true true is has =
        let first = eqb-true q.1 0 is in
        let second = eqb-true q.2 0 has in
        absurd (not_among (λ (x : ℕ). key_in Setting 0 0) (0 ∷ []) 0 q misses (λ i. (sym e i, sym first i, sym second i)) (inl refl))
    by q e misses true false is has = refl
    by q e misses false c is has = refl

-- ---- records

record_key : (k : Kind) → 1 ≤ kind_number k → (n : ℕ) → is_long n ≡ true → is_key (key_in (Records k) n 0) ≡ true
record_key kind.Identity h n l = and_from (is_long n) true l refl
record_key kind.Service h n l = and_from (is_long n) true l refl
record_key kind.Router h n l = and_from (is_long n) true l refl
record_key kind.Link h n l = and_from (is_long n) true l refl
record_key kind.ServicePolicy h n l = and_from (is_long n) true l refl
record_key kind.EdgeRouterPolicy h n l = and_from (is_long n) true l refl
record_key kind.ServiceEdgeRouterPolicy h n l = and_from (is_long n) true l refl
record_key kind.Terminator h n l = and_from (is_long n) true l refl
record_key kind.Circuit h n l = and_from (is_long n) true l refl
record_key kind.Attribute h n l = absurd (omega arith)

pub Covers-records : (format : Format) (k : Kind) (s t : State) (ns : List ℕ) → 1 ≤ kind_number k → Climbs (λ n. n) ns → list_all is_long ns ≡ true
    → ((n : ℕ) → (Among n ns → ⊥) → at (table k s).rows n ≡ at (table k t).rows n) → Covers format (kind_number k + 2) (kind_number k + 3) s t (record_changes format k s t ns)
Covers-records format k s t ns h climbs fits same =
    subst (λ high. Covers format (kind_number k + 2) high s t (record_changes format k s t ns)) (one_more (kind_number k))
    (made_cover f format (Records k) (kind_has_number format k h) (λ n. refl) s t ns (climbing_rises f (λ n. n) (λ x y l. less_by_first (f x) (f y) refl l) ns climbs)
    (all_keys f is_long (record_key k h) ns fits) (λ q e misses. by q e misses (q.2 == 0) refl))
  where
    f : ℕ → Key
    f n = key_in (Records k) n 0

    one_more : (n : ℕ) → n + 2 + 1 ≡ n + 3
    one_more n = omega arith

    by : (q : Key) → q.0 ≡ kind_number k + 2 → has_key (map f ns) q ≡ false → (b : Bool) → (q.2 == 0) ≡ b
        → cond b (option_map (record_value k) (at (table k s).rows q.1)) None ≡ cond b (option_map (record_value k) (at (table k t).rows q.1)) None
    by q e misses false is = refl
    by q e misses true is =
        let zero = eqb-true q.2 0 is in
        ap (option_map (record_value k)) (same q.1 (not_among f ns q.1 q misses (λ i. (sym e i, q.1, sym zero i))))

-- ---- counts

pub pair_key : (r : Relation) (p : ℕ × ℕ) → (is_long p.0 && is_long p.1) ≡ true → is_key (key_in (Counts r) p.0 p.1) ≡ true
pair_key Dial p h = h
pair_key Bind p h = h
pair_key IdentityRouter p h = h
pair_key ServiceRouter p h = h

pub Covers-counts : (format : Format) (r : Relation) (s t : State) (pairs : List (ℕ × ℕ)) → Rises pair_cmp (map (λ p. (p, p)) pairs) → list_all (λ p. is_long p.0 && is_long p.1) pairs ≡ true
    → ((p : ℕ × ℕ) → (Among p pairs → ⊥) → count r s p.0 p.1 ≡ count r t p.0 p.1)
    → Covers format (table_number (Counts r)) (table_number (Counts r) + 1) s t (count_changes format r s t pairs)
Covers-counts format r s t pairs rises fits same =
    made_cover f format (Counts r) refl (λ p. refl) s t pairs (rising pairs rises) (all_keys f (λ p. is_long p.0 && is_long p.1) (pair_key r) pairs fits)
    (λ q e misses. ap (count_value format) (same (q.1, q.2) (not_among f pairs (q.1, q.2) q misses (λ i. (sym e i, q.1, q.2)))))
  where
    f : ℕ × ℕ → Key
    f p = key_in (Counts r) p.0 p.1

    order : (p q : ℕ × ℕ) → pair_cmp p q ≡ Less → key_cmp (f p) (f q) ≡ Less
    order p q h = ap (λ c. ordering_then c (pair_cmp p q)) (nat_cmp-equal (table_number (Counts r)) (table_number (Counts r)) refl) ∙ h

    above : (p : ℕ × ℕ) (ps : List (ℕ × ℕ)) → Above pair_cmp p (map (λ p. (p, p)) ps) → Above key_cmp (f p) (paired (map f ps))
    above p [] a = tt
    above p (q ∷ qs) a = (order p q a.0, above p qs a.1)

    rising : (ps : List (ℕ × ℕ)) → Rises pair_cmp (map (λ p. (p, p)) ps) → Rises key_cmp (paired (map f ps))
    rising [] a = tt
    rising (p ∷ ps) a = (above p ps a.0, rising ps a.1)

-- ---- what a change of a table of records touches

long_numbers : {R : Type 0} (high : ℕ) → high ≤ last_next → (rows : List (ℕ × R)) (low : ℕ) → Between low high rows → list_all is_long (numbers rows) ≡ true
long_numbers high h [] low b = refl
long_numbers high h (x ∷ xs) low b = and_from (is_long x.0) (list_all is_long (numbers xs)) (long_upto x.0 (le_trans (le_of_lt b.1) h)) (long_numbers high h xs (x.0 + 1) b.2)

at-absent : {R : Type 0} (rows : List (ℕ × R)) (n : ℕ) → (Among n (numbers rows) → ⊥) → at rows n ≡ None
at-absent [] n misses = refl
at-absent (x ∷ xs) n misses =
    cond-false (x.0 == n) (Some x.1) (at xs n) (false_from_ne_true (x.0 == n) (λ e. misses (inl (eqb-true x.0 n e)))) ∙ at-absent xs n (λ m. misses (inr m))

at-kept : {R : Type 0} (keeps : ℕ × R → Bool) (rows : List (ℕ × R)) (n : ℕ) → (Among n (gone keeps rows) → ⊥) → at rows n ≡ at (filter keeps rows) n
at-kept keeps [] n misses = refl
at-kept keeps (x ∷ xs) n misses = by (keeps x) (x.0 == n) refl misses (at-kept keeps xs n)
  where
    by : (b c : Bool) → (x.0 == n) ≡ c → (Among n (numbers (cond (not b) (x ∷ filter (λ y. not (keeps y)) xs) (filter (λ y. not (keeps y)) xs))) → ⊥)
        → ((Among n (gone keeps xs) → ⊥) → at xs n ≡ at (filter keeps xs) n)
        → cond c (Some x.1) (at xs n) ≡ at (cond b (x ∷ filter keeps xs) (filter keeps xs)) n
    by true true e misses h = sym (cond-true (x.0 == n) (Some x.1) (at (filter keeps xs) n) e)
    by true false e misses h = h misses ∙ sym (cond-false (x.0 == n) (Some x.1) (at (filter keeps xs) n) e)
    by false true e misses h = absurd (misses (inl (eqb-true x.0 n e)))
    by false false e misses h = h (λ m. misses (inr m))

one_number : (n : ℕ) → Climbs (λ m. m) (n ∷ [])
one_number n = (tt, tt)

long_alone : (n : ℕ) → is_long n ≡ true → list_all is_long (n ∷ []) ≡ true
long_alone n h = and_from (is_long n) true h refl

at_table : (k : Kind) (s t : State) (u : Table (Record k)) (n : ℕ) → table k t ≡ u → at (table k s).rows n ≡ at u.rows n → at (table k s).rows n ≡ at (table k t).rows n
at_table k s t u n e f = f ∙ ap (λ (w : Table (Record k)). at w.rows n) (sym e)

pub Covers-with_new : (format : Format) (k : Kind) (s t : State) (r : Record k) → 1 ≤ kind_number k → (table k s).next ≤ last_next → table k t ≡ with_new r (table k s)
    → Covers format (kind_number k + 2) (kind_number k + 3) s t (record_changes format k s t ((table k s).next ∷ []))
Covers-with_new format k s t r h last e =
    let n = (table k s).next in
    Covers-records format k s t (n ∷ []) h (one_number n) (long_alone n (long_upto n last)) (λ m misses.
    at_table k s t (with_new r (table k s)) m e (sym (at-with_last-other (table k s).rows n m r (λ same. misses (inl (sym same))))))

pub Covers-with_edit : (format : Format) (k : Kind) (s t : State) (n : ℕ) (f : Record k → Record k) → 1 ≤ kind_number k → is_long n ≡ true → table k t ≡ with_edit n f (table k s)
    → Covers format (kind_number k + 2) (kind_number k + 3) s t (record_changes format k s t (n ∷ []))
Covers-with_edit format k s t n f h l e = Covers-records format k s t (n ∷ []) h (one_number n) (long_alone n l) (λ m misses.
    at_table k s t (with_edit n f (table k s)) m e (sym (at-edit_at-other (table k s).rows n m f (λ same. misses (inl (sym same))))))

pub Covers-with_removed : (format : Format) (k : Kind) (s t : State) (n : ℕ) → 1 ≤ kind_number k → is_long n ≡ true → table k t ≡ with_removed n (table k s)
    → Covers format (kind_number k + 2) (kind_number k + 3) s t (record_changes format k s t (n ∷ []))
Covers-with_removed format k s t n h l e = Covers-records format k s t (n ∷ []) h (one_number n) (long_alone n l) (λ m misses.
    at_table k s t (with_removed n (table k s)) m e (sym (at-without-other (table k s).rows n m (λ same. misses (inl (sym same))))))

pub Covers-with_kept : (format : Format) (k : Kind) (s t : State) (keeps : ℕ × Record k → Bool) (high : ℕ) → 1 ≤ kind_number k → Between 1 high (table k s).rows → high ≤ last_next
    → table k t ≡ with_kept keeps (table k s) → Covers format (kind_number k + 2) (kind_number k + 3) s t (record_changes format k s t (gone keeps (table k s).rows))
Covers-with_kept format k s t keeps high h b last e =
    let left = Between-filter (λ x. not (keeps x)) high (table k s).rows 1 b in
    Covers-records format k s t (gone keeps (table k s).rows) h (Climbs-numbers high (filter (λ x. not (keeps x)) (table k s).rows) 1 left)
    (long_numbers high last (filter (λ x. not (keeps x)) (table k s).rows) 1 left) (λ m misses.
    at_table k s t (with_kept keeps (table k s)) m e (at-kept keeps (table k s).rows m misses))

pub Covers-with_each : (format : Format) (k : Kind) (s t : State) (f : Record k → Record k) (high : ℕ) → 1 ≤ kind_number k → Between 1 high (table k s).rows → high ≤ last_next
    → table k t ≡ with_each f (table k s) → Covers format (kind_number k + 2) (kind_number k + 3) s t (record_changes format k s t (numbers (table k s).rows))
Covers-with_each format k s t f high h b last e =
    Covers-records format k s t (numbers (table k s).rows) h (Climbs-numbers high (table k s).rows 1 b) (long_numbers high last (table k s).rows 1 b) (λ m misses.
    let none = at-absent (table k s).rows m misses in
    at_table k s t (with_each f (table k s)) m e (none ∙ sym (at-map_each f (table k s).rows m ∙ ap (option_map f) none)))

-- a table that differs from the old one at some numbers alone, of which then the records that pass a test are kept
pub Covers-then_kept : (format : Format) (k : Kind) (s e t : State) (keeps : ℕ × Record k → Bool) (ns : List ℕ) → 1 ≤ kind_number k → Climbs (λ n. n) ns → list_all is_long ns ≡ true
    → ((n : ℕ) → (Among n ns → ⊥) → at (table k s).rows n ≡ at (table k e).rows n) → ((n : ℕ) → Among n (gone keeps (table k e).rows) → Among n ns)
    → table k t ≡ with_kept keeps (table k e) → Covers format (kind_number k + 2) (kind_number k + 3) s t (record_changes format k s t ns)
Covers-then_kept format k s e t keeps ns h climbs fits same inside is = Covers-records format k s t ns h climbs fits (λ n misses.
    same n misses ∙ at_table k e t (with_kept keeps (table k e)) n is (at-kept keeps (table k e).rows n (λ m. misses (inside n m))))

-- a table that one change turns, and that then loses the records of some numbers
pub Covers-turned : (format : Format) (k : Kind) (s t : State) (set : Record k → Record k) (turn : Turn (Record k)) (ns : List ℕ) (before after : Table (Record k)) (changed : Option ℕ)
    → 1 ≤ kind_number k → Climbs (λ n. n) ns → list_all is_long (touched_numbers changed ns) ≡ true → changed ≡ turned_number turn before.next
    → turned_table set turn before ≡ after → table k s ≡ before → table k t ≡ without_numbers ns after
    → Covers format (kind_number k + 2) (kind_number k + 3) s t (record_changes format k s t (touched_numbers changed ns))
Covers-turned format k s t set turn ns before after changed h climbs fits touched turns is goes =
    Covers-records format k s t (touched_numbers changed ns) h (touched_climb changed ns climbs) fits (λ n misses.
    at_table k s t (without_numbers ns after) n goes
    (ap (λ (u : Table (Record k)). at u.rows n) is ∙ elsewhere changed ns before after (λ m other.
    untouched-turned set turn before m (λ e. other (touched ∙ e)) ∙ ap (λ (u : Table (Record k)). at u.rows m) turns) n misses))

-- ---- intercepts and the serial

-- the intercepts of the second format are covered by the changes at climbing numbers, if at every other number they are the same
pub Covers-intercepts : (s t : State) (ns : List ℕ) → Climbs (λ n. n) ns → list_all is_long ns ≡ true
    → ((n : ℕ) → (Among n ns → ⊥) → at s.intercepts n ≡ at t.intercepts n) → Covers Two 16 17 s t (intercept_changes Two s t ns)
Covers-intercepts s t ns climbs fits same =
    made_cover f Two Intercepts refl (λ n. refl) s t ns (climbing_rises f (λ n. n) (λ x y l. less_by_first (f x) (f y) refl l) ns climbs)
    (all_keys f is_long (λ n l. and_from (is_long n) true l refl) ns fits) (λ q e misses. by q e misses (q.2 == 0) refl)
  where
    f : ℕ → Key
    f n = key_in Intercepts n 0

    by : (q : Key) → q.0 ≡ 16 → has_key (map f ns) q ≡ false → (b : Bool) → (q.2 == 0) ≡ b
        → cond b (option_map intercept_value (at s.intercepts q.1)) None ≡ cond b (option_map intercept_value (at t.intercepts q.1)) None
    by q e misses false is = refl
    by q e misses true is =
        let zero = eqb-true q.2 0 is in
        ap (option_map intercept_value) (same q.1 (not_among f ns q.1 q misses (λ i. (sym e i, q.1, sym zero i))))

-- the serial of the second format is covered by its change
pub Covers-serial : (s t : State) → Covers Two 17 18 s t (serial_change Two s t ∷ [])
Covers-serial s t =
    made_cover (λ (x : ℕ). key_in Serial 0 0) Two Serial refl (λ x. refl) s t (0 ∷ []) (tt, tt) refl (λ q e misses. by q e misses (q.1 == 0) (q.2 == 0) refl refl)
  where
    by : (q : Key) → q.0 ≡ 17 → has_key (map (λ (x : ℕ). key_in Serial 0 0) (0 ∷ [])) q ≡ false → (b c : Bool) → (q.1 == 0) ≡ b → (q.2 == 0) ≡ c
        → cond (b && c) (serial_value s.serial) None ≡ cond (b && c) (serial_value t.serial) None
    by q e misses true true is has =
        let first = eqb-true q.1 0 is in
        let second = eqb-true q.2 0 has in
        absurd (not_among (λ (x : ℕ). key_in Serial 0 0) (0 ∷ []) 0 q misses (λ i. (sym e i, sym first i, sym second i)) (inl refl))
    by q e misses true false is has = refl
    by q e misses false c is has = refl
