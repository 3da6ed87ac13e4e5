-- Rows without flaws, with every count among them, are those of the state that they give.
use Rattle.std.proofs.Common.{◌≡◌, ℕ, ◌+◌, ◌≤◌, ◌==◌, ◌&&◌, nat_lt, nat_le, not, is_some, Bool, true, false, cond, List, [], ◌∷◌, map, find, Option, None, Some, option_map, refl, sym, ◌∙◌, ap, subst, eqb-true}
use Rattle.std.proofs.lemmas.Bool.{and_parts, cond-true, cond-false, not-true, false≢true}
use Rattle.std.proofs.lemmas.Option.{same_Some, none-some}
use Rattle.std.specs.List.{list_all}
use Rattle.std.specs.Option.{unwrap_or, option_and_then}
use Rattle.ctrl_model.specs.declared.formats.Format.{Format}
use Rattle.ctrl_model.specs.declared.formats.Format.TheVariants.{One, Two}
use Rattle.ctrl_model.specs.declared.kinds.Kind.{Kind}
use Rattle.ctrl_model.specs.declared.kinds.Kind.TheVariants as kind
use Rattle.ctrl_model.specs.declared.kinds.Relation.{Relation}
use Rattle.ctrl_model.specs.Numbered.{at}
use Rattle.ctrl_model.specs.State.{State, start}
use Rattle.ctrl_model.specs.Limits.{last_next}
use Rattle.ctrl_model.specs.Tables.{table}
use Rattle.ctrl_model.specs.ValidState.{ValidState}
use Rattle.ctrl_model.specs.Grants.{count, same_relation}
use Rattle.ctrl_model.proofs.Members.{find_passes, find_among, list_all-among}
use Rattle.row_codec.specs.declared.rows.Row.{Row}
use Rattle.row_codec.specs.declared.changes.Op.{Op}
use Rattle.row_codec.specs.declared.changes.Op.TheVariants.{Put}
use Rattle.row_codec.specs.RowKeys.{RowTable, Key, key_cmp, key_bytes, kinds, kind_number, table_number, tables_of}
use Rattle.row_codec.specs.RowKeys.RowTable.{Next, Setting, Records, Counts, Intercepts, Serial}
use Rattle.row_codec.specs.RowForm.{is_row}
use Rattle.row_codec.specs.RowValues.{long, wide, count_bytes, record_value}
use Rattle.row_codec.specs.RowDifference.{value_at, Rises}
use Rattle.row_codec.specs.StateRows.{next_value, setting_value, serial_value, count_value, rows_of, row_in, row_at, HasRows}
use Rattle.row_codec.specs.Batches.{batch_between}
use Rattle.state_building.specs.BuiltStates.{built, AreFlawless, next_in, with_nexts, state_in, HaveCounts}
use Rattle.row_laws.proofs.KeyOrders.{key_total, key_exact}
use Rattle.row_laws.proofs.RisingRows.{same_rows}
use Rattle.row_laws.proofs.RisingStates.{IsNumbered, Rises-rows_of}
use Rattle.row_laws.proofs.RowsAtKeys.{value_at-rows_of}
use Rattle.row_laws.proofs.StateBatches.{batch_from_start}
use Rattle.row_laws.proofs.TableRows.{has_number, find_table, row_at-table}
use Rattle.row_laws.proofs.WrittenRows.{IsNumbered-valid, AscendIn-valid}
use Rattle.row_laws.specs.OrderedIntercepts.{AscendIn}
use Rattle.state_building.proofs.BuiltRows.{start-valid, start-below, built-valid, built-below, with_nexts-valid}
use Rattle.row_loading.specs.LoadedRows.{put_of, keyed, Loads}
use Rattle.row_loading.proofs.RowThings.{Thing, things_of, entry_of, entries, keyed-things, is_thing, is_plain, are_things, are_plain, built_of, built-things, first_next, next_in-things, first_count, count_in-things}
use Rattle.row_loading.proofs.RowThings.Thing.{NextNumber, TheSetting, OneRecord, OneCount, OneIntercept, TheSerial}
use Rattle.row_loading.proofs.NextNumbersOfRows.{first_next-fits, next_in-between}
use Rattle.row_loading.proofs.GivenTables.{with_nexts-rows, with_nexts-next, with_nexts-count}
use Rattle.row_loading.proofs.ThingsAtKeys.{value_at-later, nexts_at, first_setting, setting_at, built-setting, first_serial, serial_at, built-serial, counts_at, records_at, intercepts_at, built-plain}

-- ---- what the first one says is there

value_of_next : (o : Option ℕ) → ((n : ℕ) → o ≡ Some n → nat_lt 1 n ≡ true) → next_value (unwrap_or o 1) ≡ option_map long o
value_of_next None h = refl
value_of_next (Some n) h = cond-true (nat_lt 1 n) (Some (long n)) None (h n refl)

value_of_setting : (o : Option ℕ) → ((c : ℕ) → o ≡ Some c → not (c == start.least_router_cost) ≡ true) → setting_value (unwrap_or o start.least_router_cost) ≡ option_map long o
value_of_setting None h = refl
value_of_setting (Some c) h = cond-false (c == start.least_router_cost) None (Some (long c)) (not-true (c == start.least_router_cost) (h c refl))

value_of_count : (f : Format) (o : Option ℕ) → ((c : ℕ) → o ≡ Some c → nat_lt 0 c ≡ true) → count_value f (unwrap_or o 0) ≡ option_map (count_bytes f) o
value_of_count f None h = refl
value_of_count f (Some c) h = cond-true (nat_lt 0 c) (Some (count_bytes f c)) None (h c refl)

first_setting-fits : (xs : List Thing) → list_all is_thing xs ≡ true → (c : ℕ) → first_setting xs ≡ Some c → not (c == start.least_router_cost) ≡ true
first_setting-fits [] h c e = absurd (cc)
first_setting-fits (TheSetting cost ∷ xs) h c e =
    ap (λ n. not (n == start.least_router_cost)) (sym (same_Some cost c e)) ∙ (and_parts (is_thing (TheSetting cost)) (list_all is_thing xs) h).0
first_setting-fits (x ∷ xs) h c e = first_setting-fits xs (and_parts (is_thing x) (list_all is_thing xs) h).1 c e

value_of_serial : (o : Option ℕ) → ((n : ℕ) → o ≡ Some n → nat_lt 0 n ≡ true) → serial_value (unwrap_or o 0) ≡ option_map wide o
value_of_serial None h = refl
value_of_serial (Some n) h = cond-true (nat_lt 0 n) (Some (wide n)) None (h n refl)

first_serial-fits : (xs : List Thing) → list_all is_thing xs ≡ true → (n : ℕ) → first_serial xs ≡ Some n → nat_lt 0 n ≡ true
first_serial-fits [] h n e = absurd (cc)
first_serial-fits (TheSerial m ∷ xs) h n e = ap (nat_lt 0) (sym (same_Some m n e)) ∙ (and_parts (is_thing (TheSerial m)) (list_all is_thing xs) h).0
first_serial-fits (x ∷ xs) h n e = first_serial-fits xs (and_parts (is_thing x) (list_all is_thing xs) h).1 n e

first_count-fits : (r : Relation) (a b : ℕ) (xs : List Thing) → list_all is_thing xs ≡ true → (c : ℕ) → first_count r a b xs ≡ Some c → nat_lt 0 c ≡ true
first_count-fits r a b [] h c e = absurd (cc)
first_count-fits r a b (OneCount q m n d ∷ xs) h c e =
    let parts = and_parts (is_thing (OneCount q m n d)) (list_all is_thing xs) h in
    by (same_relation r q && (m == a && n == b)) parts.0 e (first_count-fits r a b xs parts.1 c)
  where
    by : (t : Bool) → nat_lt 0 d ≡ true → cond t (Some d) (first_count r a b xs) ≡ Some c → (first_count r a b xs ≡ Some c → nat_lt 0 c ≡ true) → nat_lt 0 c ≡ true
    by true fits f later = ap (nat_lt 0) (sym (same_Some d c f)) ∙ fits
    by false fits f later = later f
first_count-fits r a b (x ∷ xs) h c e = first_count-fits r a b xs (and_parts (is_thing x) (list_all is_thing xs) h).1 c e

-- ---- things of a format

-- Whether a format has rows of a thing.
abbrev has_thing : Format → Thing → Bool
has_thing One x = is_plain x
has_thing Two x = true

are_of : (f : Format) (rows : List Row) → list_all (is_row f) rows ≡ true → list_all (has_thing f) (things_of rows) ≡ true
are_of One rows h = are_plain rows h
are_of Two rows h = each (things_of rows)
  where
    each : (xs : List Thing) → list_all (λ (x : Thing). true) xs ≡ true
    each [] = refl
    each (x ∷ xs) = each xs

-- ---- the rows of a state that is built of things

-- Things, with the next numbers that the kinds get, that say all of the state that they give.
record AreWhole (f : Format) (nexts : Kind → ℕ) (xs : List Thing) : Type 0 where
  form : list_all is_thing xs ≡ true
  of_format : list_all (has_thing f) xs ≡ true
  rises : Rises key_cmp (entries f xs)
  numbered : IsNumbered (with_nexts nexts (built_of xs start))
  ascending : AscendIn f (with_nexts nexts (built_of xs start))
  next_said : (k : Kind) → nexts k ≡ unwrap_or (first_next (kind_number k) xs) 1
  count_said : (r : Relation) (a b : ℕ) → unwrap_or (first_count r a b xs) 0 ≡ count r (built_of xs start) a b

-- The state that they give.
abbrev given : (Kind → ℕ) → List Thing → State
given nexts xs = with_nexts nexts (built_of xs start)

nexts_given : (f : Format) (nexts : Kind → ℕ) (xs : List Thing) → AreWhole f nexts xs → (a b : ℕ) → value_at key_cmp (entries f xs) (1, a, b) ≡ row_in f Next (given nexts xs) a b
nexts_given f nexts xs w a b = nexts_at f xs a b ∙ ap (λ o. cond (b == 0) o None) (by (find (λ k. kind_number k == a) kinds) refl)
  where
    none : (o : Option ℕ) → first_next a xs ≡ o → find (λ k. kind_number k == a) kinds ≡ None → option_map long o ≡ None
    none None e f = refl
    none (Some n) e f = absurd (false≢true (ap is_some (sym f) ∙ (first_next-fits a xs w.form n e).0))

    by : (o : Option Kind) → find (λ k. kind_number k == a) kinds ≡ o
        → option_map long (first_next a xs) ≡ option_and_then (λ k. next_value (table k (given nexts xs)).next) o
    by None e = none (first_next a xs) refl e
    by (Some k) e =
        let same = eqb-true (kind_number k) a (find_passes (λ k. kind_number k == a) kinds k e) in
        let above = list_all-among (λ k. nat_le 1 (kind_number k)) kinds k refl (find_among (λ k. kind_number k == a) kinds k e) in
        sym (ap next_value (with_nexts-next k nexts (built_of xs start) above ∙ w.next_said k ∙ ap (λ n. unwrap_or (first_next n xs) 1) same)
        ∙ value_of_next (first_next a xs) (λ n f. (first_next-fits a xs w.form n f).1))

setting_given : (f : Format) (nexts : Kind → ℕ) (xs : List Thing) → AreWhole f nexts xs → (a b : ℕ) → value_at key_cmp (entries f xs) (2, a, b) ≡ row_in f Setting (given nexts xs) a b
setting_given f nexts xs w a b =
    setting_at f xs w.form a b
    ∙ ap (λ o. cond (a == 0 && b == 0) o None)
    (sym (ap setting_value (built-setting f xs start w.rises) ∙ value_of_setting (first_setting xs) (first_setting-fits xs w.form)))

records_given : (f : Format) (k : Kind) → nat_le 1 (kind_number k) ≡ true → (nexts : Kind → ℕ) (xs : List Thing) → AreWhole f nexts xs → (a b : ℕ)
    → value_at key_cmp (entries f xs) (kind_number k + 2, a, b) ≡ row_in f (Records k) (given nexts xs) a b
records_given f k h nexts xs w a b =
    records_at f k h xs w.form a b
    ∙ ap (λ rows. cond (b == 0) (option_map (record_value k) (at rows a)) None) (sym (with_nexts-rows k nexts (built_of xs start)))

counts_given : (f : Format) (r : Relation) (nexts : Kind → ℕ) (xs : List Thing) → AreWhole f nexts xs → (a b : ℕ)
    → value_at key_cmp (entries f xs) (table_number (Counts r), a, b) ≡ row_in f (Counts r) (given nexts xs) a b
counts_given f r nexts xs w a b =
    counts_at f r xs a b
    ∙ sym (ap (count_value f) (with_nexts-count r nexts (built_of xs start) a b ∙ sym (w.count_said r a b))
    ∙ value_of_count f (first_count r a b xs) (first_count-fits r a b xs w.form))

serial_given : (nexts : Kind → ℕ) (xs : List Thing) → AreWhole Two nexts xs → (a b : ℕ) → value_at key_cmp (entries Two xs) (17, a, b) ≡ row_in Two Serial (given nexts xs) a b
serial_given nexts xs w a b =
    serial_at Two xs a b
    ∙ ap (λ o. cond (a == 0 && b == 0) o None)
    (sym (ap serial_value (built-serial Two xs start w.rises) ∙ value_of_serial (first_serial xs) (first_serial-fits xs w.form)))

above_none : (f : Format) (k : Kind) → has_number f (Records k) ≡ true → nat_le 1 (kind_number k) ≡ true
above_none f kind.Attribute h = absurd (cc)
above_none f k h = refl

given_in : (f : Format) (t : RowTable) → has_number f t ≡ true → (nexts : Kind → ℕ) (xs : List Thing) → AreWhole f nexts xs → (a b : ℕ)
    → value_at key_cmp (entries f xs) (table_number t, a, b) ≡ row_in f t (given nexts xs) a b
given_in f Next h nexts xs w a b = nexts_given f nexts xs w a b
given_in f Setting h nexts xs w a b = setting_given f nexts xs w a b
given_in f (Records k) h nexts xs w a b = records_given f k (above_none f k h) nexts xs w a b
given_in f (Counts r) h nexts xs w a b = counts_given f r nexts xs w a b
given_in One Intercepts h nexts xs w a b = absurd (cc)
given_in Two Intercepts h nexts xs w a b = intercepts_at Two xs a b
given_in One Serial h nexts xs w a b = absurd (cc)
given_in Two Serial h nexts xs w a b = serial_given nexts xs w a b

-- ---- keys that lie in no table

not_found : (f : Format) (t : RowTable) → has_number f t ≡ true → (n : ℕ) → find (λ u. table_number u == n) (tables_of f) ≡ None → (table_number t == n) ≡ false
not_found f t h n e = by (table_number t == n) refl
  where
    by : (b : Bool) → (table_number t == n) ≡ b → b ≡ false
    by true is =
        absurd (none-some t (sym e ∙ ap (λ m. find (λ u. table_number u == m) (tables_of f)) (sym (eqb-true (table_number t) n is)) ∙ find_table f t h))
    by false is = refl

entry_not_found : (f : Format) (x : Thing) → is_thing x ≡ true → has_thing f x ≡ true → (n : ℕ) → find (λ u. table_number u == n) (tables_of f) ≡ None → ((entry_of f x).0.0 == n) ≡ false
entry_not_found f (NextNumber k m) h has n e = not_found f Next refl n e
entry_not_found f (TheSetting cost) h has n e = not_found f Setting refl n e
entry_not_found f (OneRecord k m r) h has n e = not_found f (Records k) (has_records k h) n e
  where
    has_records : (k : Kind) → nat_le 1 (kind_number k) ≡ true → has_number f (Records k) ≡ true
    has_records kind.Attribute h = absurd (cc)
    has_records k h = refl
entry_not_found f (OneCount r a b c) h has n e = not_found f (Counts r) refl n e
entry_not_found One (OneIntercept m i) h has n e = absurd (cc)
entry_not_found Two (OneIntercept m i) h has n e = not_found Two Intercepts refl n e
entry_not_found One (TheSerial m) h has n e = absurd (cc)
entry_not_found Two (TheSerial m) h has n e = not_found Two Serial refl n e

nothing_outside : (f : Format) (xs : List Thing) → list_all is_thing xs ≡ true → list_all (has_thing f) xs ≡ true
    → (q : Key) → find (λ u. table_number u == q.0) (tables_of f) ≡ None → value_at key_cmp (entries f xs) q ≡ None
nothing_outside f [] h has q e = refl
nothing_outside f (x ∷ xs) h has q e =
    let parts = and_parts (is_thing x) (list_all is_thing xs) h in
    let both = and_parts (has_thing f x) (list_all (has_thing f) xs) has in
    value_at-later (entry_of f x) (entries f xs) q (entry_not_found f x parts.0 both.0 q.0 e) ∙ nothing_outside f xs parts.1 both.1 q e

-- ---- the state is valid

pub valid_in : (f : Format) (ops : List Op) (rows : List Row) → Loads f ops rows → AreFlawless (next_in rows) rows start → ValidState (state_in rows)
valid_in f ops rows l g =
    let nexts = next_in rows in
    let last : (k : Kind) → nexts k ≤ last_next = λ k. (next_in-between f rows k l.form).1 in
    with_nexts-valid nexts last kinds (built rows start) (built-valid nexts last rows start start-valid g)
    (λ k. built-below nexts rows start (start-below nexts) g k (next_in-between f rows k l.form).0)

-- and the format has rows for it
pub has_rows-in : (f : Format) (ops : List Op) (rows : List Row) → Loads f ops rows → HasRows f (state_in rows)
has_rows-in One ops rows l =
    let plain = built-plain (things_of rows) start (are_plain rows l.form) in
    (ap (λ (t : State). t.intercepts) (built-things rows start) ∙ plain.0, ap (λ (t : State). t.serial) (built-things rows start) ∙ plain.1)
has_rows-in Two ops rows l = tt

-- ---- all rows

all_numbered : (f : Format) → list_all (has_number f) (tables_of f) ≡ true
all_numbered One = refl
all_numbered Two = refl

given_at : (f : Format) (nexts : Kind → ℕ) (xs : List Thing) → AreWhole f nexts xs → (q : Key) → value_at key_cmp (entries f xs) q ≡ row_at f (given nexts xs) q
given_at f nexts xs w q = by (find (λ t. table_number t == q.0) (tables_of f)) refl
  where
    by : (o : Option RowTable) → find (λ t. table_number t == q.0) (tables_of f) ≡ o → value_at key_cmp (entries f xs) q ≡ row_at f (given nexts xs) q
    by None e = nothing_outside f xs w.form w.of_format q e ∙ sym (ap (option_and_then (λ t. row_in f t (given nexts xs) q.1 q.2)) e)
    by (Some t) e =
        let same = sym (eqb-true (table_number t) q.0 (find_passes (λ t. table_number t == q.0) (tables_of f) t e)) in
        let has = list_all-among (has_number f) (tables_of f) t (all_numbered f) (find_among (λ t. table_number t == q.0) (tables_of f) t e) in
        ap (λ (n : ℕ). value_at key_cmp (entries f xs) (n, q.1, q.2)) same
        ∙ given_in f t has nexts xs w q.1 q.2 ∙ sym (row_at-table f t has (given nexts xs) q same)

entries_are : (f : Format) (nexts : Kind → ℕ) (xs : List Thing) → AreWhole f nexts xs → entries f xs ≡ rows_of f (given nexts xs)
entries_are f nexts xs w =
    same_rows key_total key_exact (entries f xs) (rows_of f (given nexts xs)) w.rises (Rises-rows_of f (given nexts xs) w.numbered w.ascending)
    (λ q. given_at f nexts xs w q ∙ sym (value_at-rows_of f (given nexts xs) q))

keyed_are : (f : Format) (ops : List Op) (rows : List Row) → Loads f ops rows → AreFlawless (next_in rows) rows start → HaveCounts rows (built rows start)
    → keyed f rows ≡ rows_of f (state_in rows)
keyed_are f ops rows l g c =
    let nexts = next_in rows in
    let xs = things_of rows in
    let same = built-things rows start in
    let valid = valid_in f ops rows l g in
    keyed-things f rows
    ∙ entries_are f nexts xs (record {
      form = are_things f rows l.form;
      of_format = are_of f rows l.form;
      rises = subst (Rises key_cmp) (keyed-things f rows) l.rises;
      numbered = subst (λ s. IsNumbered (with_nexts nexts s)) same (IsNumbered-valid (state_in rows) valid);
      ascending = subst (λ s. AscendIn f (with_nexts nexts s)) same (AscendIn-valid f (state_in rows) valid);
      next_said = next_in-things rows;
      count_said = λ r a b. sym (count_in-things rows r a b) ∙ c r a b ∙ ap (λ s. count r s a b) same;
    })
    ∙ ap (λ s. rows_of f (with_nexts nexts s)) (sym same)

puts_of_keyed : (f : Format) (rows : List Row) → map (put_of f) rows ≡ map (λ (x : Key × List ℕ). Put (key_bytes x.0) x.1) (keyed f rows)
puts_of_keyed f [] = refl
puts_of_keyed f (x ∷ xs) = λ i. put_of f x ∷ puts_of_keyed f xs i

pub ops_are : (f : Format) (ops : List Op) (rows : List Row) → Loads f ops rows → AreFlawless (next_in rows) rows start → HaveCounts rows (built rows start)
    → ops ≡ batch_between f start (state_in rows)
ops_are f ops rows l g c =
    l.spelled ∙ puts_of_keyed f rows ∙ ap (map (λ (x : Key × List ℕ). Put (key_bytes x.0) x.1)) (keyed_are f ops rows l g c) ∙ sym (batch_from_start f (state_in rows))
