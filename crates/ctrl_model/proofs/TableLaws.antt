-- Laws on the tables of a valid state: what adding a record, changing one, changing all, and leaving out some keep of them.
use Rattle.std.proofs.Common.{◌≡◌, ◌≢◌, ℕ, ◌+◌, ◌<◌, ◌==◌, Bool, true, false, cond, ◌&&◌, ◌⊎◌, inl, inr, List, [], ◌∷◌, map, length, None, Some, refl, sym, ◌∙◌, ap, arith}
use Rattle.std.proofs.lemmas.List.{length-map}
use Rattle.std.proofs.lemmas.Bool.{and_parts, and_from, both_ways}
use Rattle.std.proofs.lemmas.List.Folds.{list_all-append}
use Rattle.std.specs.List.{filter, list_all}
use Rattle.std.specs.Str.{bytes_eq}
use Rattle.ctrl_model.specs.declared.kinds.Kind.{Kind}
use Rattle.ctrl_model.specs.Limits.{limit, last_next}
use Rattle.ctrl_model.specs.Numbered.{Table, no_rows, with_new, with_edit, with_each, at, with_last, first_where, Between}
use Rattle.ctrl_model.specs.State.{State}
use Rattle.ctrl_model.specs.Tables.{Record, has_names, record_name}
use Rattle.ctrl_model.specs.ValidState.{ValidNumbers, ValidTable, HaveUniqueNames, each_passes, is_valid}
use Rattle.ctrl_model.proofs.Members.{list_all-among, list_all-from_among, by_filter}
use Rattle.ctrl_model.proofs.NumberedLaws.{at-past, at-map-back, at-with_last-back, at-filter-back, Between-with_last, Between-map, Between-filter, length-with_last, length-filter-le, first_where-none, first_where-found, is_found-from, by_is_some}
use Rattle.ctrl_model.proofs.DistinctLaws.{same_name, same_bytes}

-- ---- numbers

pub ValidNumbers-with_last : {R : Type 0} {most : ℕ} {rows : List (ℕ × R)} {next : ℕ} → ValidNumbers most rows next → (r : R)
    → (length rows < most) × (next < last_next) → ValidNumbers most (with_last rows next r) (next + 1)
ValidNumbers-with_last {rows = rows} {next = next} v r room = record {
  first = omega arith;
  last = omega arith;
  ordered = Between-with_last next rows 1 r v.first v.ordered;
  few = rw (length-with_last rows next r) (omega arith);
}

pub ValidNumbers-map : {R S : Type 0} {most : ℕ} {rows : List (ℕ × R)} {next : ℕ} → ValidNumbers most rows next → (g : ℕ × R → S)
    → ValidNumbers most (map (λ x. (x.0, g x)) rows) next
ValidNumbers-map {S = S} {rows = rows} {next = next} v g = record {
  first = v.first;
  last = v.last;
  ordered = Between-map g next rows 1 v.ordered;
  few = rw (length-map {B = ℕ × S} rows (λ x. (x.0, g x))) v.few;
}

pub ValidNumbers-filter : {R : Type 0} {most : ℕ} {rows : List (ℕ × R)} {next : ℕ} → ValidNumbers most rows next → (p : ℕ × R → Bool)
    → ValidNumbers most (filter p rows) next
ValidNumbers-filter {rows = rows} {next = next} v p = record {
  first = v.first;
  last = v.last;
  ordered = Between-filter p next rows 1 v.ordered;
  few = let l = length-filter-le p rows in omega arith;
}

-- nothing stands at the next number
pub at-next : {R : Type 0} {most : ℕ} {rows : List (ℕ × R)} {next : ℕ} → ValidNumbers most rows next → at rows next ≡ None
at-next {rows = rows} {next = next} v = at-past next rows 1 next v.ordered (omega arith)

-- ---- names

-- the record of a name that no record has is a new one
pub HaveUniqueNames-with_last : {R : Type 0} (name_of : R → List ℕ) (rows : List (ℕ × R)) (n : ℕ) (r : R) → HaveUniqueNames name_of rows → at rows n ≡ None
    → first_where (λ t. bytes_eq (name_of t) (name_of r)) rows ≡ None → HaveUniqueNames name_of (with_last rows n r)
HaveUniqueNames-with_last {R = R} name_of rows n r unique free new a b t u ea eb same =
    by (at-with_last-back rows n a r t free ea) (at-with_last-back rows n b r u free eb)
  where
    clash : (m : ℕ) (w : R) → at rows m ≡ Some w → name_of w ≡ name_of r → ⊥
    clash m w stands named =
        both_ways (bytes_eq (name_of w) (name_of r)) (first_where-none (λ t. bytes_eq (name_of t) (name_of r)) rows m w new stands) (same_bytes (name_of w) (name_of r) named)

    by : ((a ≡ n) × (t ≡ r)) ⊎ ((a ≢ n) × (at rows a ≡ Some t)) → ((b ≡ n) × (u ≡ r)) ⊎ ((b ≢ n) × (at rows b ≡ Some u)) → a ≡ b
    by (inl x) (inl y) = x.0 ∙ sym y.0
    by (inl x) (inr y) = absurd (clash b u y.1 (sym same ∙ ap name_of x.1))
    by (inr x) (inl y) = absurd (clash a t x.1 (same ∙ ap name_of y.1))
    by (inr x) (inr y) = unique a b t u x.1 y.1 same

-- a change that keeps each name
pub HaveUniqueNames-map : {R S : Type 0} (name_of : R → List ℕ) (named : S → List ℕ) (g : ℕ × R → S) (rows : List (ℕ × R))
    → ((x : ℕ × R) → named (g x) ≡ name_of x.1) → HaveUniqueNames name_of rows → HaveUniqueNames named (map (λ x. (x.0, g x)) rows)
HaveUniqueNames-map name_of named g rows keeps unique a b t u ea eb same =
    let x = at-map-back g rows a t ea in
    let y = at-map-back g rows b u eb in
    unique a b x.0 y.0 x.1 y.1 (sym (keeps (a, x.0)) ∙ ap named x.2 ∙ same ∙ sym (ap named y.2) ∙ keeps (b, y.0))

pub HaveUniqueNames-filter : {R : Type 0} (name_of : R → List ℕ) (p : ℕ × R → Bool) (high : ℕ) (rows : List (ℕ × R)) (low : ℕ) → Between low high rows
    → HaveUniqueNames name_of rows → HaveUniqueNames name_of (filter p rows)
HaveUniqueNames-filter name_of p high rows low b unique m n t u em en same =
    unique m n t u (at-filter-back p high rows low m t b em).0 (at-filter-back p high rows low n u b en).0 same

-- ---- each record passes a test

pub each_passes-more : {R : Type 0} (test after : R → Bool) → ((r : R) → test r ≡ true → after r ≡ true) → (rows : List (ℕ × R))
    → each_passes test rows ≡ true → each_passes after rows ≡ true
each_passes-more test after keeps rows e =
    list_all-from_among (λ x. after x.1) rows (λ x m. keeps x.1 (list_all-among (λ x. test x.1) rows x e m))

pub each_passes-with_last : {R : Type 0} (test : R → Bool) (rows : List (ℕ × R)) (n : ℕ) (r : R) → each_passes test rows ≡ true → test r ≡ true
    → each_passes test (with_last rows n r) ≡ true
each_passes-with_last test rows n r e t =
    list_all-append (λ x. test x.1) rows ((n, r) ∷ []) ∙ and_from (each_passes test rows) (test r && true) e (and_from (test r) true t refl)

pub each_passes-map : {R S : Type 0} (test : R → Bool) (after : S → Bool) (g : ℕ × R → S) → ((x : ℕ × R) → test x.1 ≡ true → after (g x) ≡ true)
    → (rows : List (ℕ × R)) → each_passes test rows ≡ true → each_passes after (map (λ x. (x.0, g x)) rows) ≡ true
each_passes-map test after g keeps [] e = refl
each_passes-map test after g keeps (x ∷ rows) e =
    let both = and_parts (test x.1) (each_passes test rows) e in
    and_from (after (g x)) (each_passes after (map (λ x. (x.0, g x)) rows)) (keeps x both.0) (each_passes-map test after g keeps rows both.1)

-- what a filter keeps passes each test that follows from the filter's and the one that all passed
pub list_all-filter : {X : Type 0} (p test after : X → Bool) → ((x : X) → p x ≡ true → test x ≡ true → after x ≡ true) → (xs : List X)
    → list_all test xs ≡ true → list_all after (filter p xs) ≡ true
list_all-filter p test after keeps xs e =
    list_all-from_among after (filter p xs) (λ x m. by_filter p xs x m (λ n q. keeps x q (list_all-among test xs x e n)))

pub each_passes-filter : {R : Type 0} (test : R → Bool) (p : ℕ × R → Bool) (rows : List (ℕ × R)) → each_passes test rows ≡ true
    → each_passes test (filter p rows) ≡ true
each_passes-filter test p rows e = list_all-filter p (λ x. test x.1) (λ x. test x.1) (λ x q t. t) rows e

-- the record at a number passes
pub each_passes-at : {R : Type 0} (test : R → Bool) (rows : List (ℕ × R)) (n : ℕ) (r : R) → each_passes test rows ≡ true → at rows n ≡ Some r → test r ≡ true
each_passes-at test [] n r e k = absurd (cc)
each_passes-at test (x ∷ rows) n r e k = by (x.0 == n) (and_parts (test x.1) (each_passes test rows) e) k (each_passes-at test rows n r)
  where
    by : (b : Bool) → (test x.1 ≡ true) × (each_passes test rows ≡ true) → cond b (Some x.1) (at rows n) ≡ Some r
        → (each_passes test rows ≡ true → at rows n ≡ Some r → test r ≡ true) → test r ≡ true
    by true both k h = let same : x.1 ≡ r = cc in ap test (sym same) ∙ both.0
    by false both k h = h both.1 k

-- ---- names and numbers

-- the name of a record finds its number
pub named-finds : {R : Type 0} (name_of : R → List ℕ) (rows : List (ℕ × R)) (n : ℕ) (r : R) → HaveUniqueNames name_of rows → at rows n ≡ Some r
    → (high low : ℕ) → Between low high rows → first_where (λ t. bytes_eq (name_of t) (name_of r)) rows ≡ Some n
named-finds name_of rows n r unique stands high low b =
    by_is_some (first_where (λ t. bytes_eq (name_of t) (name_of r)) rows)
    (is_found-from (λ t. bytes_eq (name_of t) (name_of r)) rows n r stands (same_bytes (name_of r) (name_of r) refl)) (λ m is.
    let f = first_where-found (λ t. bytes_eq (name_of t) (name_of r)) high rows low m b is in
    is ∙ ap Some (unique m n f.record_found r f.stands stands (same_name (name_of f.record_found) (name_of r) f.passes)))

-- the number that a name finds is that of a record of the name
pub found-named : {R : Type 0} (name_of : R → List ℕ) (rows : List (ℕ × R)) (n : ℕ) (name : List ℕ) (high low : ℕ) → Between low high rows
    → first_where (λ t. bytes_eq (name_of t) name) rows ≡ Some n → (r : R) × (at rows n ≡ Some r) × (name_of r ≡ name)
found-named name_of rows n name high low b is =
    let f = first_where-found (λ t. bytes_eq (name_of t) name) high rows low n b is in
    (f.record_found, f.stands, same_name (name_of f.record_found) name f.passes)

-- ---- a table without records

pub valid-none : (k : Kind) (s : State) → ValidTable k s no_rows
valid-none k s = record {
  numbers = record { first = omega arith; last = omega arith; ordered = tt; few = omega arith };
  names = λ has a b r t e f same. absurd (cc);
  each = refl;
}

-- ---- a table of a kind, valid in one state, is valid in another whose records need no more, and after each kind of change

module _ {k : Kind} {s : State} {t : Table (Record k)} (v : ValidTable k s t) (u : State) (more : (q : Record k) → is_valid k s q ≡ true → is_valid k u q ≡ true) where
  pub valid-more : ValidTable k u t
  valid-more = record {
    numbers = v.numbers;
    names = v.names;
    each = each_passes-more (is_valid k s) (is_valid k u) more t.rows v.each;
  }

  pub valid-new : (r : Record k) → (has_names k ≡ true → first_where (λ q. bytes_eq (record_name k q) (record_name k r)) t.rows ≡ None)
      → (length t.rows < limit k) × (t.next < last_next) → is_valid k u r ≡ true → ValidTable k u (with_new r t)
  valid-new r new room passes = record {
    numbers = ValidNumbers-with_last v.numbers r room;
    names = λ h. HaveUniqueNames-with_last (record_name k) t.rows t.next r (v.names h) (at-next v.numbers) (new h);
    each = each_passes-with_last (is_valid k u) t.rows t.next r valid-more.each passes;
  }

  pub valid-filter : (p : ℕ × Record k → Bool) → ValidTable k u (record t { rows = filter p t.rows })
  valid-filter p = record {
    numbers = ValidNumbers-filter v.numbers p;
    names = λ h. HaveUniqueNames-filter (record_name k) p t.next t.rows 1 v.numbers.ordered (v.names h);
    each = each_passes-filter (is_valid k u) p t.rows valid-more.each;
  }

module _ {k : Kind} {s : State} {t : Table (Record k)} (v : ValidTable k s t) (u : State) where
  -- a change of each record, by its number, that keeps its name
  pub valid-map : (g : ℕ × Record k → Record k) → ((x : ℕ × Record k) → record_name k (g x) ≡ record_name k x.1)
      → ((x : ℕ × Record k) → is_valid k s x.1 ≡ true → is_valid k u (g x) ≡ true) → ValidTable k u (record t { rows = map (λ x. (x.0, g x)) t.rows })
  valid-map g keeps passes = record {
    numbers = ValidNumbers-map v.numbers g;
    names = λ h. HaveUniqueNames-map (record_name k) (record_name k) g t.rows keeps (v.names h);
    each = each_passes-map (is_valid k s) (is_valid k u) g passes t.rows v.each;
  }

  pub valid-each : (f : Record k → Record k) → ((q : Record k) → record_name k (f q) ≡ record_name k q)
      → ((q : Record k) → is_valid k s q ≡ true → is_valid k u (f q) ≡ true) → ValidTable k u (with_each f t)
  valid-each f keeps passes = valid-map (λ x. f x.1) (λ x. keeps x.1) (λ x. passes x.1)

  pub valid-edit : ((q : Record k) → is_valid k s q ≡ true → is_valid k u q ≡ true) → (n : ℕ) (f : Record k → Record k) → ((q : Record k) → record_name k (f q) ≡ record_name k q)
      → ((q : Record k) → is_valid k s q ≡ true → is_valid k u (f q) ≡ true) → ValidTable k u (with_edit n f t)
  valid-edit more n f keeps passes =
      valid-map (λ x. cond (x.0 == n) (f x.1) x.1) (λ x. name (x.0 == n) x.1) (λ x. tested (x.0 == n) x.1)
    where
      name : (b : Bool) (q : Record k) → record_name k (cond b (f q) q) ≡ record_name k q
      name true q = keeps q
      name false q = refl

      tested : (b : Bool) (q : Record k) → is_valid k s q ≡ true → is_valid k u (cond b (f q) q) ≡ true
      tested true q e = passes q e
      tested false q e = more q e
