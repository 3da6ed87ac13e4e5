-- The next numbers and the counts that rows have are those whose values stand under their keys.
use Rattle.std.proofs.Common.{◌≡◌, ℕ, ◌≤◌, ◌==◌, ◌&&◌, nat_lt, nat_le, Bool, true, false, cond, List, [], ◌∷◌, Option, None, Some, option_map, is_eq, refl, sym, ◌∙◌, ap, arith, ltb-false}
use Rattle.std.proofs.lemmas.Bool.{and_parts}
use Rattle.std.proofs.lemmas.Option.{same_Some, none-some}
use Rattle.std.specs.List.{list_all}
use Rattle.std.specs.Option.{unwrap_or}
use Rattle.ctrl_model.specs.declared.formats.Format.{Format}
use Rattle.ctrl_model.specs.declared.formats.Format.TheVariants.{One, Two}
use Rattle.ctrl_model.specs.declared.kinds.Kind.{Kind}
use Rattle.ctrl_model.specs.declared.kinds.Kind.TheVariants as kind
use Rattle.ctrl_model.specs.declared.kinds.Relation.{Relation}
use Rattle.ctrl_model.specs.declared.kinds.Relation.TheVariants.{Dial, Bind, IdentityRouter, ServiceRouter}
use Rattle.ctrl_model.specs.State.{State}
use Rattle.ctrl_model.specs.Tables.{table}
use Rattle.ctrl_model.specs.Grants.{count, same_relation}
use Rattle.ctrl_model.specs.ValidState.{ValidState}
use Rattle.row_codec.specs.declared.rows.Row.{Row}
use Rattle.row_codec.specs.declared.rows.Row.TheVariants as row
use Rattle.row_codec.specs.RowKeys.{Key, kind_number, key_in, key_cmp, is_long}
use Rattle.row_codec.specs.RowKeys.RowTable.{Next, Counts}
use Rattle.row_codec.specs.RowValues.{long, count_bytes}
use Rattle.row_codec.specs.RowForm.{is_row, key_of, value_of, is_count}
use Rattle.row_codec.specs.RowDifference.{value_at}
use Rattle.row_codec.specs.StateRows.{Rows, next_value, row_at}
use Rattle.row_laws.proofs.KeyOrders.{is_eq-key_cmp, long_upto}
use Rattle.row_laws.proofs.RowsAtKeys.{value_at-rows_of}
use Rattle.row_laws.proofs.TableRows.{row_at-table}
use Rattle.row_laws.proofs.SpelledValues.{long_same}
use Rattle.row_laws.proofs.WrittenRows.{count_fits}
use Rattle.state_building.specs.BuiltStates.{next_said, next_in, count_said, count_in}
use Rattle.row_loading.specs.LoadedRows.{keyed}
use Rattle.row_loading.proofs.ListedStates.{listed, lists_state}
use Rattle.row_loading.proofs.SameRows.{one_count}

-- ---- a number that some rows say

-- the first number that is said of rows, or another where none is
abbrev said_in : (Row → Option ℕ) → ℕ → List Row → ℕ
said_in said other [] = other
said_in said other (x ∷ xs) = unwrap_or (said x) (said_in said other xs)

-- what is said of a row is the value under a key, in a spelling of numbers
abbrev SaysValue : Format → (ℕ → List ℕ) → (Row → Option ℕ) → Key → Type 0
SaysValue f spell said q = (x : Row) → option_map spell (said x) ≡ cond (is_eq (key_cmp (key_of x) q)) (Some (value_of f x)) None

-- what is said of a row that some state can have passes a test
abbrev SaysFitting : Format → (ℕ → Bool) → (Row → Option ℕ) → Type 0
SaysFitting f fits said = (x : Row) → is_row f x ≡ true → (n : ℕ) → said x ≡ Some n → fits n ≡ true

-- numbers that pass a test are told apart by their spelling
abbrev TellsApart : (ℕ → List ℕ) → (ℕ → Bool) → Type 0
TellsApart spell fits = (m n : ℕ) → fits m ≡ true → fits n ≡ true → spell m ≡ spell n → m ≡ n

module _ (f : Format) (spell : ℕ → List ℕ) (test : ℕ → Bool) (apart : TellsApart spell test) where
  said-found : (said : Row → Option ℕ) (q : Key) → SaysValue f spell said q → SaysFitting f test said → (other n : ℕ) (there : Bool) → (there ≡ true → test n ≡ true)
      → (there ≡ false → other ≡ n) → (rows : List Row) → list_all (is_row f) rows ≡ true
      → value_at key_cmp (keyed f rows) q ≡ cond there (Some (spell n)) None → said_in said other rows ≡ n
  said-found said q same fits other n there h absent [] form e = by there e absent
    where
      by : (there : Bool) → None ≡ cond there (Some (spell n)) None → (there ≡ false → other ≡ n) → other ≡ n
      by true e g = absurd (none-some (spell n) e)
      by false e g = g refl
  said-found said q same fits other n there h absent (x ∷ xs) form e =
      let parts = and_parts (is_row f x) (list_all (is_row f) xs) form in
      by (said x) (is_eq (key_cmp (key_of x) q)) there (fits x parts.0) h (same x) e (said-found said q same fits other n there h absent xs parts.1)
    where
      by : (o : Option ℕ) (here there : Bool) → ((m : ℕ) → o ≡ Some m → test m ≡ true) → (there ≡ true → test n ≡ true) → option_map spell o ≡ cond here (Some (value_of f x)) None
          → cond here (Some (value_of f x)) (value_at key_cmp (keyed f xs) q) ≡ cond there (Some (spell n)) None
          → (value_at key_cmp (keyed f xs) q ≡ cond there (Some (spell n)) None → said_in said other xs ≡ n) → unwrap_or o (said_in said other xs) ≡ n
      by None true there l h s k later = absurd (none-some (value_of f x) s)
      by None false there l h s k later = later k
      by (Some m) true true l h s k later = apart m n (l m refl) (h refl) (same_Some (spell m) (value_of f x) s ∙ same_Some (value_of f x) (spell n) k)
      by (Some m) true false l h s k later = absurd (none-some (value_of f x) (sym k))
      by (Some m) false there l h s k later = absurd (none-some (spell m) (sym s))

long_apart : TellsApart long is_long
long_apart m n h k e = (long_same m n [] [] h k e).0

-- ---- next numbers

one_test : (b : Bool) (n : ℕ) → option_map long (cond b (Some n) None) ≡ cond (b && true) (Some (long n)) None
one_test true n = refl
one_test false n = refl

next-says_value : (f : Format) (k : Kind) → SaysValue f long (next_said k) (key_in Next (kind_number k) 0)
next-says_value f k (row.Next j n) =
    one_test (j == kind_number k) n ∙ ap (λ t. cond t (Some (long n)) None) (sym (is_eq-key_cmp (key_in Next j 0) (key_in Next (kind_number k) 0)))
next-says_value f k x = refl

next-says_long : (f : Format) (k : Kind) → SaysFitting f is_long (next_said k)
next-says_long f k (row.Next j m) h n e = by (j == kind_number k) e
  where
    by : (b : Bool) → cond b (Some m) None ≡ Some n → is_long n ≡ true
    by true e = ap is_long (sym (same_Some m n e)) ∙ (and_parts (nat_lt 1 m) (is_long m) (and_parts (nat_le 1 j && nat_le j 9) (nat_lt 1 m && is_long m) h).1).1
    by false e = absurd (none-some n e)
next-says_long f k x h n e = absurd (none-some n e)

next_in-said : (rows : List Row) (k : Kind) → next_in rows k ≡ said_in (next_said k) 1 rows
next_in-said [] k = refl
next_in-said (x ∷ xs) k = ap (unwrap_or (next_said k x)) (next_in-said xs k)

next_row : (f : Format) (k : Kind) (s : State) → row_at f s (key_in Next (kind_number k) 0) ≡ next_value (table k s).next
next_row One kind.Identity s = refl
next_row One k s = refl
next_row Two kind.Identity s = refl
next_row Two k s = refl

pub next_in-listed : (f : Format) (s : State) → ValidState s → (k : Kind) → next_in (listed f s) k ≡ (table k s).next
next_in-listed f s v k =
    let rows = lists_state f s v in
    let numbers = (v.kinds k).numbers in
    next_in-said (listed f s) k
    ∙ said-found f long is_long long_apart (next_said k) (key_in Next (kind_number k) 0) (next-says_value f k) (next-says_long f k) 1 (table k s).next
    (nat_lt 1 (table k s).next) (λ e. long_upto (table k s).next numbers.last) (λ e. at_least (table k s).next numbers.first (ltb-false 1 (table k s).next e))
    (listed f s) rows.form
    (ap (λ (ys : Rows). value_at key_cmp ys (key_in Next (kind_number k) 0)) rows.entries ∙ value_at-rows_of f s (key_in Next (kind_number k) 0) ∙ next_row f k s)
  where
    at_least : (n : ℕ) → 1 ≤ n → n ≤ 1 → 1 ≡ n
    at_least n h k = omega arith

-- ---- counts

two_tests : (g : ℕ → List ℕ) (a b : Bool) (n : ℕ) → option_map g (cond a (cond b (Some n) None) None) ≡ cond (a && b) (Some (g n)) None
two_tests g true true n = refl
two_tests g true false n = refl
two_tests g false b n = refl

pair-says : (f : Format) (r : Relation) (a b i j c : ℕ)
    → option_map (count_bytes f) (cond (i == a) (cond (j == b) (Some c) None) None) ≡ cond (is_eq (key_cmp (key_in (Counts r) i j) (key_in (Counts r) a b))) (Some (count_bytes f c)) None
pair-says f r a b i j c = two_tests (count_bytes f) (i == a) (j == b) c ∙ ap (λ t. cond t (Some (count_bytes f c)) None) (sym (alike r))
  where
    alike : (r : Relation) → is_eq (key_cmp (key_in (Counts r) i j) (key_in (Counts r) a b)) ≡ ((i == a) && (j == b))
    alike Dial = is_eq-key_cmp (key_in (Counts Dial) i j) (key_in (Counts Dial) a b)
    alike Bind = is_eq-key_cmp (key_in (Counts Bind) i j) (key_in (Counts Bind) a b)
    alike IdentityRouter = is_eq-key_cmp (key_in (Counts IdentityRouter) i j) (key_in (Counts IdentityRouter) a b)
    alike ServiceRouter = is_eq-key_cmp (key_in (Counts ServiceRouter) i j) (key_in (Counts ServiceRouter) a b)

count-says_value : (f : Format) (r : Relation) (a b : ℕ) → SaysValue f (count_bytes f) (count_said r a b) (key_in (Counts r) a b)
count-says_value f Dial a b (row.Dial i j c) = pair-says f Dial a b i.0 j.0 c
count-says_value f Bind a b (row.Bind i j c) = pair-says f Bind a b i.0 j.0 c
count-says_value f IdentityRouter a b (row.IdentityRouter i j c) = pair-says f IdentityRouter a b i.0 j.0 c
count-says_value f ServiceRouter a b (row.ServiceRouter i j c) = pair-says f ServiceRouter a b i.0 j.0 c
count-says_value f r a b x = refl

said_fits : (v : Format) (d e f h k : Bool) (c n : ℕ) → (h && (k && is_count v c)) ≡ true → cond d (cond e (cond f (Some c) None) None) None ≡ Some n → is_count v n ≡ true
said_fits v true true true h k c n form e =
    ap (is_count v) (sym (same_Some c n e)) ∙ (and_parts k (is_count v c) (and_parts h (k && is_count v c) form).1).1
said_fits v true true false h k c n form e = absurd (none-some n e)
said_fits v true false f h k c n form e = absurd (none-some n e)
said_fits v false e' f h k c n form e = absurd (none-some n e)

count-says_fitting : (v : Format) (r : Relation) (a b : ℕ) → SaysFitting v (is_count v) (count_said r a b)
count-says_fitting v r a b (row.Dial i j c) h n e = said_fits v (same_relation r Dial) (i.0 == a) (j.0 == b) (is_long i.0) (is_long j.0) c n h e
count-says_fitting v r a b (row.Bind i j c) h n e = said_fits v (same_relation r Bind) (i.0 == a) (j.0 == b) (is_long i.0) (is_long j.0) c n h e
count-says_fitting v r a b (row.IdentityRouter i j c) h n e = said_fits v (same_relation r IdentityRouter) (i.0 == a) (j.0 == b) (is_long i.0) (is_long j.0) c n h e
count-says_fitting v r a b (row.ServiceRouter i j c) h n e = said_fits v (same_relation r ServiceRouter) (i.0 == a) (j.0 == b) (is_long i.0) (is_long j.0) c n h e
count-says_fitting v r a b x h n e = absurd (none-some n e)

count_in-said : (rows : List Row) (r : Relation) (a b : ℕ) → count_in rows r a b ≡ said_in (count_said r a b) 0 rows
count_in-said [] r a b = refl
count_in-said (x ∷ xs) r a b = ap (unwrap_or (count_said r a b x)) (count_in-said xs r a b)

pub count_in-listed : (f : Format) (s : State) → ValidState s → (r : Relation) (a b : ℕ) → count_in (listed f s) r a b ≡ count r s a b
count_in-listed f s v r a b =
    let rows = lists_state f s v in
    count_in-said (listed f s) r a b
    ∙ said-found f (count_bytes f) (is_count f) (one_count f) (count_said r a b) (key_in (Counts r) a b) (count-says_value f r a b) (count-says_fitting f r a b) 0 (count r s a b)
    (nat_lt 0 (count r s a b)) (count_fits f r s v a b) (λ e. none (count r s a b) (ltb-false 0 (count r s a b) e))
    (listed f s) rows.form
    (ap (λ (ys : Rows). value_at key_cmp ys (key_in (Counts r) a b)) rows.entries ∙ value_at-rows_of f s (key_in (Counts r) a b)
    ∙ row_at-table f (Counts r) refl s (key_in (Counts r) a b) refl)
  where
    none : (n : ℕ) → n ≤ 0 → 0 ≡ n
    none n h = omega arith
