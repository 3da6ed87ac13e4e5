-- Laws on covers: those of neighbouring tables join, tables that stay are covered by no changes, and a cover of all tables makes the
-- batch.
use Rattle.std.proofs.Common.{◌≡◌, ℕ, ◌+◌, ◌<◌, ◌≤◌, ◌==◌, ◌||◌, ◌⊎◌, inl, inr, Bool, true, false, cond, List, [], ◌∷◌, ◌++◌, map, flat_map, find, Option, None, Some, option_and_then, option_map, refl, sym, ◌∙◌, ap, ap₂, subst, arith, le_trans, lt_of_lt_of_le, Less, is_eq}
use Rattle.std.proofs.lemmas.Bool.{and_parts, and_from, or_parts, cases_lt, cond-true, cond-false}
use Rattle.std.specs.Cmp.{Equal-is}
use Rattle.std.specs.List.{AllByRecursion, list_all}
use Rattle.ctrl_model.specs.declared.formats.Format.{Format}
use Rattle.ctrl_model.specs.declared.kinds.Kind.{Kind}
use Rattle.ctrl_model.specs.declared.kinds.Relation.{Relation}
use Rattle.ctrl_model.specs.Numbered.{at}
use Rattle.ctrl_model.specs.State.{State}
use Rattle.ctrl_model.specs.Tables.{table}
use Rattle.ctrl_model.specs.Grants.{count}
use Rattle.std.proofs.lemmas.List.Folds.{list_all-append}
use Rattle.std.proofs.lemmas.List.{map-append}
use Rattle.row_codec.specs.declared.changes.Change.{Change}
use Rattle.row_codec.specs.RowKeys.{RowTable, Key, kinds, kind_number, key_cmp, key_bytes, is_key, table_number}
use Rattle.row_codec.specs.RowKeys.RowTable.{Next, Setting, Records, Counts}
use Rattle.row_codec.specs.RowValues.{record_value}
use Rattle.row_codec.specs.RowDifference.{Entry, Rises, value_at, said_of, IsDifference}
use Rattle.row_codec.specs.StateRows.{next_value, count_value, row_in, rows_of, row_at}
use Rattle.row_codec.specs.Batches.{bytes_cmp, op_at, ops_at, ops_of, batch_of, batch_between, entries_of}
use Rattle.row_codec.specs.CoveredTables.{Covers, LiesIn, change_at, has_key}
use Rattle.row_laws.proofs.RisingRows.{Above, All-append, All-more}
use Rattle.row_laws.proofs.Differences.{said_of-same, difference_only}
use Rattle.row_laws.proofs.KeyOrders.{key_total, key_exact, less_by_table}
use Rattle.row_laws.proofs.RowsAtKeys.{value_at-rows_of}
use Rattle.row_laws.proofs.RisingStates.{IsNumbered, Rises-rows_of}
use Rattle.row_laws.specs.OrderedIntercepts.{AscendIn}
use Rattle.row_laws.proofs.TableRows.{row_at-outside, row_at-table, has_number, kind_has_number, lies_in_one}
use Rattle.row_laws.proofs.SpelledKeys.{AreKeys, spelled, Rises-spelled, entries_of-ops_of}

-- keys as rows under themselves
abbrev pub paired : List Key → List (Key × Key)
paired keys = map (λ k. (k, k)) keys

-- ---- neighbours

pub has_key-append : (ks ls : List Key) (q : Key) → has_key (ks ++ ls) q ≡ false → (has_key ks q ≡ false) × (has_key ls q ≡ false)
has_key-append [] ls q e = (refl, e)
has_key-append (k ∷ ks) ls q e =
    let parts = or_parts (is_eq (key_cmp k q)) (has_key (ks ++ ls) q) e in
    let rest = has_key-append ks ls q parts.1 in (ap₂ (λ b c. b || c) parts.0 rest.0, rest.1)

before_all : (b c : ℕ) (k : Key) (ls : List Key) → k.0 < b → AllByRecursion (LiesIn b c) ls → Above key_cmp k (paired ls)
before_all b c k [] h a = tt
before_all b c k (l ∷ ls) h a = (less_by_table k l (lt_of_lt_of_le h a.0.0), before_all b c k ls h a.1)

Rises-paired : (a b c : ℕ) (ks ls : List Key) → Rises key_cmp (paired ks) → Rises key_cmp (paired ls) → AllByRecursion (LiesIn a b) ks → AllByRecursion (LiesIn b c) ls
    → Rises key_cmp (paired (ks ++ ls))
Rises-paired a b c [] ls r s w v = s
Rises-paired a b c (k ∷ ks) ls r s w v = (
  subst (λ xs. Above key_cmp k xs) (sym (map-append (λ k. (k, k)) ks ls)) (All-append (λ x. key_cmp k x.0 ≡ Less) (paired ks) (paired ls) r.0 (before_all b c k ls w.0.1 v)),
  Rises-paired a b c ks ls r.1 s w.1 v,
)

pub Covers-append : (format : Format) (a b c : ℕ) (s t : State) (xs ys : List Change) → a ≤ b → b ≤ c → Covers format a b s t xs → Covers format b c s t ys → Covers format a c s t (xs ++ ys)
Covers-append format a b c s t xs ys h j x y = record {
  keys = x.keys ++ y.keys;
  named = ap₂ (λ v w. v ++ w) x.named y.named ∙ sym (map-append (change_at format s t) x.keys y.keys);
  rises = Rises-paired a b c x.keys y.keys x.rises y.rises x.within y.within;
  fits = list_all-append is_key x.keys y.keys ∙ and_from (list_all is_key x.keys) (list_all is_key y.keys) x.fits y.fits;
  within = All-append (LiesIn a c) x.keys y.keys
      (All-more (LiesIn a b) (LiesIn a c) (λ k l. (l.0, lt_of_lt_of_le l.1 j)) x.keys x.within)
      (All-more (LiesIn b c) (LiesIn a c) (λ k l. (le_trans h l.0, l.1)) y.keys y.within);
  others = λ k l e.
      let parts = has_key-append x.keys y.keys k e in by k l parts.0 parts.1 (cases_lt k.0 b);
}
  where
    by : (k : Key) → LiesIn a c k → has_key x.keys k ≡ false → has_key y.keys k ≡ false → (k.0 < b) ⊎ (b ≤ k.0) → row_at format s k ≡ row_at format t k
    by k l e f (inl less) = x.others k (l.0, less) e
    by k l e f (inr more) = y.others k (more, l.1) f

-- ---- tables that stay

pub Covers-same : (format : Format) (low high : ℕ) (s t : State) → ((key : Key) → LiesIn low high key → row_at format s key ≡ row_at format t key) → Covers format low high s t []
Covers-same format low high s t same = record { keys = []; named = refl; rises = tt; fits = refl; within = tt; others = λ k l e. same k l }

-- a table of one number whose rows are the same in both states
same_table : (format : Format) (u : RowTable) → has_number format u ≡ true → (s t : State) → ((first second : ℕ) → row_in format u s first second ≡ row_in format u t first second)
    → Covers format (table_number u) (table_number u + 1) s t []
same_table format u h s t same = Covers-same format (table_number u) (table_number u + 1) s t (λ k l.
    let is = lies_in_one (table_number u) k.0 l.0 l.1 in row_at-table format u h s k is ∙ same k.1 k.2 ∙ sym (row_at-table format u h t k is))

pub Covers-same_next : (format : Format) (s t : State) → ((k : Kind) → (table k s).next ≡ (table k t).next) → Covers format 1 2 s t []
Covers-same_next format s t e = same_table format Next refl s t (λ a b i.
    cond (b == 0) (option_and_then (λ k. next_value (e k i)) (find (λ k. kind_number k == a) kinds)) None)

pub Covers-same_setting : (format : Format) (s t : State) → s.least_router_cost ≡ t.least_router_cost → Covers format 2 3 s t []
Covers-same_setting format s t e = same_table format Setting refl s t (λ a b. ap (λ c. row_of_setting c a b) e)
  where
    row_of_setting : ℕ → ℕ → ℕ → Option (List ℕ)
    row_of_setting c a b = row_in format Setting (record s { least_router_cost = c }) a b

pub Covers-same_records : (format : Format) (k : Kind) (s t : State) → 1 ≤ kind_number k → ((n : ℕ) → at (table k s).rows n ≡ at (table k t).rows n)
    → Covers format (kind_number k + 2) (kind_number k + 3) s t []
Covers-same_records format k s t h e =
    subst (λ high. Covers format (kind_number k + 2) high s t []) (one_more (kind_number k))
    (same_table format (Records k) (kind_has_number format k h) s t (λ a b i. cond (b == 0) (option_map (record_value k) (e a i)) None))
  where
    one_more : (n : ℕ) → n + 2 + 1 ≡ n + 3
    one_more n = omega arith

pub Covers-same_counts : (format : Format) (r : Relation) (s t : State) → ((a b : ℕ) → count r s a b ≡ count r t a b)
    → Covers format (table_number (Counts r)) (table_number (Counts r) + 1) s t []
Covers-same_counts format r s t e = same_table format (Counts r) refl s t (λ a b i. count_value format (e a b i))

-- ---- all tables

abbrev entries_at : Key → Option (Option (List ℕ)) → List (Entry Key)
entries_at key None = []
entries_at key (Some said) = (key, said) ∷ []

-- what some answers say at keys
abbrev said_at : (Key → Option (Option (List ℕ))) → List Key → List (Entry Key)
said_at f keys = flat_map (λ k. entries_at k (f k)) keys

abbrev says : Format → State → State → Key → Option (Option (List ℕ))
says format s t k = said_of (row_at format s k) (row_at format t k)

ops_of-said_at : (format : Format) (s t : State) (keys : List Key) → ops_of (said_at (says format s t) keys) ≡ batch_of (map (change_at format s t) keys)
ops_of-said_at format s t [] = refl
ops_of-said_at format s t (k ∷ ks) = by (says format s t k) (ops_of-said_at format s t ks)
  where
    by : (m : Option (Option (List ℕ))) → ops_of (said_at (says format s t) ks) ≡ batch_of (map (change_at format s t) ks)
        → ops_of (entries_at k m ++ said_at (says format s t) ks) ≡ ops_at (key_bytes k) m ++ batch_of (map (change_at format s t) ks)
    by None h = h
    by (Some said) h = λ i. op_at (key_bytes k) said ∷ h i

value_at-said_at : (f : Key → Option (Option (List ℕ))) (keys : List Key) (q : Key) → value_at key_cmp (said_at f keys) q ≡ cond (has_key keys q) (f q) None
value_at-said_at f [] q = refl
value_at-said_at f (k ∷ ks) q = by (f k) (is_eq (key_cmp k q)) refl refl (value_at-said_at f ks q)
  where
    same : is_eq (key_cmp k q) ≡ true → f q ≡ f k
    same e = ap f (sym (key_exact k q ((Equal-is (key_cmp k q)).0 e)))

    none : (b : Bool) → f q ≡ None → cond b (f q) None ≡ f q
    none true e = refl
    none false e = sym e

    by : (m : Option (Option (List ℕ))) (b : Bool) → f k ≡ m → is_eq (key_cmp k q) ≡ b → value_at key_cmp (said_at f ks) q ≡ cond (has_key ks q) (f q) None
        → value_at key_cmp (entries_at k m ++ said_at f ks) q ≡ cond (b || has_key ks q) (f q) None
    by None true e d h = h ∙ none (has_key ks q) (same d ∙ e)
    by None false e d h = h
    by (Some said) true e d h = cond-true (is_eq (key_cmp k q)) (Some said) (value_at key_cmp (said_at f ks) q) d ∙ sym (same d ∙ e)
    by (Some said) false e d h = cond-false (is_eq (key_cmp k q)) (Some said) (value_at key_cmp (said_at f ks) q) d ∙ h

Above-said_at : (f : Key → Option (Option (List ℕ))) (p : Key) (keys : List Key) → Above key_cmp p (paired keys) → Above key_cmp p (said_at f keys)
Above-said_at f p [] a = tt
Above-said_at f p (k ∷ ks) a = by (f k) (Above-said_at f p ks a.1)
  where
    by : (m : Option (Option (List ℕ))) → Above key_cmp p (said_at f ks) → Above key_cmp p (entries_at k m ++ said_at f ks)
    by None h = h
    by (Some said) h = (a.0, h)

Rises-said_at : (f : Key → Option (Option (List ℕ))) (keys : List Key) → Rises key_cmp (paired keys) → Rises key_cmp (said_at f keys)
Rises-said_at f [] r = tt
Rises-said_at f (k ∷ ks) r = by (f k) (Rises-said_at f ks r.1)
  where
    by : (m : Option (Option (List ℕ))) → Rises key_cmp (said_at f ks) → Rises key_cmp (entries_at k m ++ said_at f ks)
    by None h = h
    by (Some said) h = (Above-said_at f k ks r.0, h)

AreKeys-said_at : (f : Key → Option (Option (List ℕ))) (keys : List Key) → list_all is_key keys ≡ true → AreKeys (said_at f keys)
AreKeys-said_at f [] h = tt
AreKeys-said_at f (k ∷ ks) h = by (f k) (and_parts (is_key k) (list_all is_key ks) h).0 (AreKeys-said_at f ks (and_parts (is_key k) (list_all is_key ks) h).1)
  where
    by : (m : Option (Option (List ℕ))) → is_key k ≡ true → AreKeys (said_at f ks) → AreKeys (entries_at k m ++ said_at f ks)
    by None e a = a
    by (Some said) e a = (e, a)

AreKeys-paired : (keys : List Key) → list_all is_key keys ≡ true → AreKeys (paired keys)
AreKeys-paired [] h = tt
AreKeys-paired (k ∷ ks) h = let parts = and_parts (is_key k) (list_all is_key ks) h in (parts.0, AreKeys-paired ks parts.1)

-- what a cover of all tables says is the difference of the rows
cover_says : (format : Format) (s t : State) (changes : List Change) (c : Covers format 1 18 s t changes) → IsDifference key_cmp (rows_of format s) (rows_of format t) (said_at (says format s t) c.keys)
cover_says format s t changes c = record {
  rises = Rises-said_at (says format s t) c.keys c.rises;
  each = λ q.
      value_at-said_at (says format s t) c.keys q ∙ by q (has_key c.keys q) refl (cases_lt q.0 1) (cases_lt q.0 18)
      ∙ ap₂ said_of (sym (value_at-rows_of format s q)) (sym (value_at-rows_of format t q));
}
  where
    outside : (q : Key) → (LiesIn 1 18 q → ⊥) → None ≡ says format s t q
    outside q n = sym (ap₂ said_of (row_at-outside format s q n) (row_at-outside format t q n))

    by : (q : Key) (b : Bool) → has_key c.keys q ≡ b → (q.0 < 1) ⊎ (1 ≤ q.0) → (q.0 < 18) ⊎ (18 ≤ q.0) → cond b (says format s t q) None ≡ says format s t q
    by q true e l h = refl
    by q false e (inl l) h = outside q (λ w. not_both q.0 1 l w.0)
      where
        not_both : (n m : ℕ) → n < m → m ≤ n → ⊥
        not_both n m a b = absurd (omega arith)
    by q false e (inr l) (inr h) = outside q (λ w. not_both q.0 18 w.1 h)
      where
        not_both : (n m : ℕ) → n < m → m ≤ n → ⊥
        not_both n m a b = absurd (omega arith)
    by q false e (inr l) (inl h) = sym (ap (λ v. said_of v (row_at format t q)) (c.others q (l, h) e) ∙ said_of-same (row_at format t q))

pub Covers-batch : (format : Format) (s t : State) (changes : List Change) → IsNumbered s → IsNumbered t → AscendIn format s → AscendIn format t → Covers format 1 18 s t changes
    → batch_of changes ≡ batch_between format s t
Covers-batch format s t changes n m o l c =
    ap batch_of c.named ∙ sym (ops_of-said_at format s t c.keys)
    ∙ ap ops_of (difference_only key_total key_exact (rows_of format s) (rows_of format t) (said_at (says format s t) c.keys) (Rises-rows_of format s n o) (Rises-rows_of format t m l) (cover_says format s t changes c))

-- ---- the keys of a cover rise as bytes

keys_rise : (format : Format) (s t : State) (keys : List Key) → list_all is_key keys ≡ true → Rises key_cmp (paired keys) → Rises bytes_cmp (map (λ (c : Change). (c.key, c)) (map (change_at format s t) keys))
keys_rise format s t keys h r = moved keys (Rises-spelled (paired keys) (AreKeys-paired keys h) r)
  where
    above : (k : List ℕ) (ks : List Key) → Above bytes_cmp k (spelled (paired ks)) → Above bytes_cmp k (map (λ (c : Change). (c.key, c)) (map (change_at format s t) ks))
    above k [] a = tt
    above k (l ∷ ls) a = (a.0, above k ls a.1)

    moved : (ks : List Key) → Rises bytes_cmp (spelled (paired ks)) → Rises bytes_cmp (map (λ (c : Change). (c.key, c)) (map (change_at format s t) ks))
    moved [] a = tt
    moved (k ∷ ks) a = (above (key_bytes k) ks a.0, moved ks a.1)

pub Covers-rises : (format : Format) (low high : ℕ) (s t : State) (changes : List Change) → Covers format low high s t changes → Rises bytes_cmp (map (λ (c : Change). (c.key, c)) changes)
Covers-rises format low high s t changes c =
    subst (λ (cs : List Change). Rises bytes_cmp (map (λ (c : Change). (c.key, c)) cs)) (sym c.named) (keys_rise format s t c.keys c.fits c.rises)

pub Covers-batch_rises : (format : Format) (low high : ℕ) (s t : State) (changes : List Change) → Covers format low high s t changes → Rises bytes_cmp (entries_of (batch_of changes))
Covers-batch_rises format low high s t changes c =
    subst (λ (es : List (Entry (List ℕ))). Rises bytes_cmp es)
    (sym (entries_of-ops_of (said_at (says format s t) c.keys)) ∙ ap entries_of (ops_of-said_at format s t c.keys) ∙ ap (λ cs. entries_of (batch_of cs)) (sym c.named))
    (Rises-spelled (said_at (says format s t) c.keys) (AreKeys-said_at (says format s t) c.keys c.fits) (Rises-said_at (says format s t) c.keys c.rises))
