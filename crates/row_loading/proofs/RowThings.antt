-- What rows are, as one of six things each: a next number, the setting, a record, a count, an intercept or the serial. What is said of
-- rows case by case is said here of these things, and is the same.
use Rattle.std.proofs.Common.{◌≡◌, ℕ, ◌==◌, ◌&&◌, nat_lt, nat_le, not, is_some, Bool, true, false, cond, List, [], ◌∷◌, map, find, Option, None, Some, refl, ◌∙◌, ap, arith}
use Rattle.std.proofs.lemmas.Bool.{and_parts, and_from}
use Rattle.std.proofs.lemmas.Bool.Decides.{nat_tests}
use Rattle.std.specs.List.{list_all}
use Rattle.std.specs.Option.{unwrap_or}
use Rattle.ctrl_model.specs.declared.formats.Format.{Format}
use Rattle.ctrl_model.specs.declared.formats.Format.TheVariants.{One, Two}
use Rattle.ctrl_model.specs.declared.intercepts.Intercept.{Intercept}
use Rattle.ctrl_model.specs.declared.kinds.Kind.{Kind}
use Rattle.ctrl_model.specs.declared.kinds.Relation.{Relation}
use Rattle.ctrl_model.specs.declared.kinds.Relation.TheVariants.{Dial, Bind, IdentityRouter, ServiceRouter}
use Rattle.ctrl_model.specs.State.{State, start}
use Rattle.ctrl_model.specs.Tables.{Record}
use Rattle.ctrl_model.specs.Grants.{same_relation}
use Rattle.row_codec.specs.declared.rows.Row.{Row}
use Rattle.row_codec.specs.declared.rows.Row.TheVariants as row
use Rattle.row_codec.specs.RowKeys.{Key, kinds, kind_number, key_in, is_long}
use Rattle.row_codec.specs.RowKeys.RowTable.{Next, Setting, Records, Counts, Intercepts, Serial}
use Rattle.row_codec.specs.RowValues.{long, wide, count_bytes, record_value, intercept_value}
use Rattle.row_codec.specs.RowForm.{is_row, key_of, value_of, is_count, is_short, is_two, is_wide}
use Rattle.row_codec.specs.StateRows.{Rows}
use Rattle.state_building.specs.RowForms.{by_row}
use Rattle.state_building.specs.JoinedRecords.{joined, claimed}
use Rattle.state_building.specs.BuiltStates.{with_row, built, next_in, count_in}
use Rattle.row_loading.specs.LoadedRows.{keyed}

-- One of the things that a row can be.
pub data Thing : Type 0 where
  NextNumber : ℕ → ℕ → Thing
  TheSetting : ℕ → Thing
  OneRecord : (k : Kind) → ℕ → Record k → Thing
  OneCount : Relation → ℕ → ℕ → ℕ → Thing
  OneIntercept : ℕ → Intercept → Thing
  TheSerial : ℕ → Thing

-- What a row is.
abbrev pub thing_of : Row → Thing
thing_of x = by_row (record { next = NextNumber; setting = TheSetting; one = OneRecord; count = OneCount; intercept = OneIntercept; serial = TheSerial }) x

-- What some rows are.
abbrev pub things_of : List Row → List Thing
things_of rows = map thing_of rows

-- ---- the key and the value of a thing

-- The row of a thing of a format under its key.
abbrev pub entry_of : Format → Thing → Key × List ℕ
entry_of f (NextNumber k n) = (key_in Next k 0, long n)
entry_of f (TheSetting cost) = (key_in Setting 0 0, long cost)
entry_of f (OneRecord k n r) = (key_in (Records k) n 0, record_value k r)
entry_of f (OneCount r a b c) = (key_in (Counts r) a b, count_bytes f c)
entry_of f (OneIntercept n i) = (key_in Intercepts n 0, intercept_value i)
entry_of f (TheSerial n) = (key_in Serial 0 0, wide n)

-- The rows of some things under their keys.
abbrev pub entries : Format → List Thing → Rows
entries f xs = map (entry_of f) xs

entry_of-thing : (f : Format) (x : Row) → ◌≡◌ {A = Key × List ℕ} (key_of x, value_of f x) (entry_of f (thing_of x))
entry_of-thing f (row.Next k n) = refl
entry_of-thing f x = refl

pub keyed-things : (f : Format) (rows : List Row) → keyed f rows ≡ entries f (things_of rows)
keyed-things f [] = refl
keyed-things f (x ∷ xs) = λ i. entry_of-thing f x i ∷ keyed-things f xs i

-- ---- which things some state can have

abbrev pub is_thing : Thing → Bool
is_thing (NextNumber k n) = is_some (find (λ j. kind_number j == k) kinds) && (nat_lt 1 n && is_long n)
is_thing (TheSetting cost) = not (cost == start.least_router_cost)
is_thing (OneRecord k n r) = nat_le 1 (kind_number k)
is_thing (OneCount r a b c) = nat_lt 0 c
is_thing (OneIntercept n i) = true
is_thing (TheSerial n) = nat_lt 0 n

-- Whether the first format has a row of a thing.
abbrev pub is_plain : Thing → Bool
is_plain (OneIntercept n i) = false
is_plain (TheSerial n) = false
is_plain x = true

kind_of_number : (k : ℕ) → nat_le 1 k ≡ true → nat_le k 9 ≡ true → is_some (find (λ j. kind_number j == k) kinds) ≡ true
kind_of_number k h j = grind (arith, nat_tests)

above_none : (f : Format) (c : ℕ) → is_count f c ≡ true → nat_lt 0 c ≡ true
above_none One c h = (and_parts (nat_lt 0 c) (is_long c) h).0
above_none Two c h = (and_parts (nat_lt 0 c) (is_short c) h).0

positive_count : (f : Format) (a b : Bool) (c : ℕ) → (a && (b && is_count f c)) ≡ true → nat_lt 0 c ≡ true
positive_count f a b c h = above_none f c (and_parts b (is_count f c) (and_parts a (b && is_count f c) h).1).1

pub is_thing-row : (f : Format) (x : Row) → is_row f x ≡ true → is_thing (thing_of x) ≡ true
is_thing-row f (row.Next k n) h =
    let parts = and_parts (nat_le 1 k && nat_le k 9) (nat_lt 1 n && is_long n) h in
    let within = and_parts (nat_le 1 k) (nat_le k 9) parts.0 in
    and_from (is_some (find (λ j. kind_number j == k) kinds)) (nat_lt 1 n && is_long n) (kind_of_number k within.0 within.1) parts.1
is_thing-row f (row.Setting cost) h = (and_parts (not (cost == start.least_router_cost)) (is_long cost) h).0
is_thing-row f (row.Dial a b c) h = positive_count f (is_long a.0) (is_long b.0) c h
is_thing-row f (row.Bind a b c) h = positive_count f (is_long a.0) (is_long b.0) c h
is_thing-row f (row.IdentityRouter a b c) h = positive_count f (is_long a.0) (is_long b.0) c h
is_thing-row f (row.ServiceRouter a b c) h = positive_count f (is_long a.0) (is_long b.0) c h
is_thing-row f (row.Serial n) h = (and_parts (nat_lt 0 n) (is_wide n) (and_parts (is_two f) (nat_lt 0 n && is_wide n) h).1).0
is_thing-row f x h = refl

pub are_things : (f : Format) (rows : List Row) → list_all (is_row f) rows ≡ true → list_all is_thing (things_of rows) ≡ true
are_things f [] h = refl
are_things f (x ∷ xs) h =
    let parts = and_parts (is_row f x) (list_all (is_row f) xs) h in
    and_from (is_thing (thing_of x)) (list_all is_thing (things_of xs)) (is_thing-row f x parts.0) (are_things f xs parts.1)

is_plain-row : (x : Row) → is_row One x ≡ true → is_plain (thing_of x) ≡ true
is_plain-row (row.Intercept n i) h = h
is_plain-row (row.Serial n) h = h
is_plain-row (row.Next k n) h = refl
is_plain-row x h = refl

pub are_plain : (rows : List Row) → list_all (is_row One) rows ≡ true → list_all is_plain (things_of rows) ≡ true
are_plain [] h = refl
are_plain (x ∷ xs) h =
    let parts = and_parts (is_row One x) (list_all (is_row One) xs) h in
    and_from (is_plain (thing_of x)) (list_all is_plain (things_of xs)) (is_plain-row x parts.0) (are_plain xs parts.1)

-- ---- states that are built of things

-- The state with one more thing.
abbrev pub with_thing : Thing → State → State
with_thing (NextNumber k n) s = s
with_thing (TheSetting cost) s = record s { least_router_cost = cost }
with_thing (OneRecord k n r) s = joined k n r s
with_thing (OneCount r a b c) s = s
with_thing (OneIntercept n i) s = claimed n i s
with_thing (TheSerial n) s = record s { serial = n }

-- The state with some things.
abbrev pub built_of : List Thing → State → State
built_of [] s = s
built_of (x ∷ xs) s = built_of xs (with_thing x s)

with_row-thing : (x : Row) (s : State) → with_row x s ≡ with_thing (thing_of x) s
with_row-thing (row.Next k n) s = refl
with_row-thing x s = refl

pub built-things : (rows : List Row) (s : State) → built rows s ≡ built_of (things_of rows) s
built-things [] s = refl
built-things (x ∷ xs) s = built-things xs (with_row x s) ∙ ap (built_of (things_of xs)) (with_row-thing x s)

-- ---- next numbers and counts

-- The first next number that some things have of a kind by its number.
abbrev pub first_next : ℕ → List Thing → Option ℕ
first_next k [] = None
first_next k (NextNumber j n ∷ xs) = cond (j == k) (Some n) (first_next k xs)
first_next k (x ∷ xs) = first_next k xs

pub next_in-things : (rows : List Row) (k : Kind) → next_in rows k ≡ unwrap_or (first_next (kind_number k) (things_of rows)) 1
next_in-things [] k = refl
next_in-things (row.Next j n ∷ xs) k = by (j == kind_number k) (next_in-things xs k)
  where
    by : (b : Bool) → next_in xs k ≡ unwrap_or (first_next (kind_number k) (things_of xs)) 1
        → unwrap_or (cond b (Some n) None) (next_in xs k) ≡ unwrap_or (cond b (Some n) (first_next (kind_number k) (things_of xs))) 1
    by true e = refl
    by false e = e
next_in-things (x ∷ xs) k = next_in-things xs k

-- The first count of a pair that some things have.
abbrev pub first_count : Relation → ℕ → ℕ → List Thing → Option ℕ
first_count r a b [] = None
first_count r a b (OneCount q c d n ∷ xs) = cond (same_relation r q && (c == a && d == b)) (Some n) (first_count r a b xs)
first_count r a b (x ∷ xs) = first_count r a b xs

count_said-nested : (s p q : Bool) (c later : ℕ) (o : Option ℕ) → later ≡ unwrap_or o 0
    → unwrap_or (cond s (cond p (cond q (Some c) None) None) None) later ≡ unwrap_or (cond (s && (p && q)) (Some c) o) 0
count_said-nested true true true c later o e = refl
count_said-nested true true false c later o e = e
count_said-nested true false q c later o e = e
count_said-nested false p q c later o e = e

pub count_in-things : (rows : List Row) (r : Relation) (a b : ℕ) → count_in rows r a b ≡ unwrap_or (first_count r a b (things_of rows)) 0
count_in-things [] r a b = refl
count_in-things (row.Dial m n c ∷ xs) r a b =
    count_said-nested (same_relation r Dial) (m.0 == a) (n.0 == b) c (count_in xs r a b) (first_count r a b (things_of xs)) (count_in-things xs r a b)
count_in-things (row.Bind m n c ∷ xs) r a b =
    count_said-nested (same_relation r Bind) (m.0 == a) (n.0 == b) c (count_in xs r a b) (first_count r a b (things_of xs)) (count_in-things xs r a b)
count_in-things (row.IdentityRouter m n c ∷ xs) r a b =
    count_said-nested (same_relation r IdentityRouter) (m.0 == a) (n.0 == b) c (count_in xs r a b) (first_count r a b (things_of xs)) (count_in-things xs r a b)
count_in-things (row.ServiceRouter m n c ∷ xs) r a b =
    count_said-nested (same_relation r ServiceRouter) (m.0 == a) (n.0 == b) c (count_in xs r a b) (first_count r a b (things_of xs)) (count_in-things xs r a b)
count_in-things (x ∷ xs) r a b = count_in-things xs r a b
