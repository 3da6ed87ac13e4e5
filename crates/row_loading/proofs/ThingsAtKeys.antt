-- What the rows of some things have at a key: the first next number of a kind, the first setting, the first serial, the first count of a
-- pair, and of the records and the intercepts what a state has that is built of the things.
use Rattle.std.proofs.Common.{◌≡◌, ℕ, ◌+◌, ◌<◌, ◌==◌, ◌&&◌, nat_le, Bool, true, false, cond, List, [], ◌∷◌, ◌++◌, map, filter, Option, None, Some, option_map, refl, sym, ◌∙◌, ap, ap₂, arith, eq-eqb, ne_eqb}
use Rattle.std.proofs.lemmas.Bool.{and_parts, cond-true}
use Rattle.std.proofs.lemmas.Bool.Decides.{nat_tests}
use Rattle.std.proofs.lemmas.List.{append-nil, append_assoc, map-append}
use Rattle.std.specs.List.{list_all}
use Rattle.std.specs.Option.{unwrap_or}
use Rattle.std.specs.Ordering.{is_eq}
use Rattle.ctrl_model.specs.declared.formats.Format.{Format}
use Rattle.ctrl_model.specs.declared.intercepts.Intercept.{Intercept}
use Rattle.ctrl_model.specs.declared.kinds.Kind.{Kind}
use Rattle.ctrl_model.specs.declared.kinds.Kind.TheVariants as kind
use Rattle.ctrl_model.specs.declared.kinds.Relation.{Relation}
use Rattle.ctrl_model.specs.declared.kinds.Relation.TheVariants.{Dial, Bind, IdentityRouter, ServiceRouter}
use Rattle.ctrl_model.specs.Numbered.{at, with_last}
use Rattle.ctrl_model.specs.State.{State, start}
use Rattle.ctrl_model.specs.Tables.{Record, table, with_table}
use Rattle.ctrl_model.specs.Grants.{same_relation}
use Rattle.model_laws.proofs.KindLaws.{with_table-setting, with_table-intercepts, with_table-serial}
use Rattle.row_codec.specs.RowKeys.{Key, key_cmp, kind_number, table_number}
use Rattle.row_codec.specs.RowKeys.RowTable.{Records, Counts}
use Rattle.row_codec.specs.RowValues.{long, wide, count_bytes, record_value, intercept_value}
use Rattle.row_codec.specs.RowDifference.{value_at, Rises}
use Rattle.row_codec.specs.StateRows.{Rows, rows_in}
use Rattle.state_building.specs.JoinedRecords.{joined, claimed}
use Rattle.row_laws.proofs.KeyOrders.{is_eq-key_cmp, key_total}
use Rattle.row_laws.proofs.RisingRows.{Above, never_less}
use Rattle.row_laws.proofs.RowsAtKeys.{value_at-records}
use Rattle.row_loading.proofs.RowThings.{Thing, entry_of, entries, is_thing, is_plain, with_thing, built_of, first_next, first_count}
use Rattle.row_loading.proofs.RowThings.Thing.{NextNumber, TheSetting, OneRecord, OneCount, OneIntercept, TheSerial}
use Rattle.row_loading.proofs.GivenTables.{joined-is}

-- ---- one row, and those behind it

-- whether a key of a row is another
abbrev same_key : Key → Key → Bool
same_key k q = (k.0 == q.0) && ((k.1 == q.1) && (k.2 == q.2))

value_at-one : (x : Key × List ℕ) (xs : Rows) (q : Key) → value_at key_cmp (x ∷ xs) q ≡ cond (same_key x.0 q) (Some x.1) (value_at key_cmp xs q)
value_at-one x xs q = ap (λ b. cond b (Some x.1) (value_at key_cmp xs q)) (is_eq-key_cmp x.0 q)

-- a row of another table
pub value_at-later : (x : Key × List ℕ) (xs : Rows) (q : Key) → (x.0.0 == q.0) ≡ false → value_at key_cmp (x ∷ xs) q ≡ value_at key_cmp xs q
value_at-later x xs q e =
    value_at-one x xs q ∙ ap (λ b. cond (b && ((x.0.1 == q.1) && (x.0.2 == q.2))) (Some x.1) (value_at key_cmp xs q)) e

none_at : (b : Bool) → ◌≡◌ {A = Option (List ℕ)} None (cond b None None)
none_at true = refl
none_at false = refl

eqb_sym : (a b : ℕ) → (a == b) ≡ (b == a)
eqb_sym a b = grind (arith, nat_tests)

-- ---- tables by their numbers

records_not_nexts : (k : Kind) → (kind_number k + 2 == 1) ≡ false
records_not_nexts kind.Attribute = refl
records_not_nexts k = refl

counts_not_nexts : (r : Relation) → (table_number (Counts r) == 1) ≡ false
counts_not_nexts Dial = refl
counts_not_nexts r = refl

records_not_setting : (k : Kind) → nat_le 1 (kind_number k) ≡ true → (kind_number k + 2 == 2) ≡ false
records_not_setting kind.Attribute h = absurd (cc)
records_not_setting k h = refl

counts_not_setting : (r : Relation) → (table_number (Counts r) == 2) ≡ false
counts_not_setting Dial = refl
counts_not_setting r = refl

nexts_not_records : (k : Kind) → (1 == kind_number k + 2) ≡ false
nexts_not_records kind.Attribute = refl
nexts_not_records k = refl

setting_not_records : (k : Kind) → nat_le 1 (kind_number k) ≡ true → (2 == kind_number k + 2) ≡ false
setting_not_records kind.Attribute h = absurd (cc)
setting_not_records k h = refl

kind_below : (k : Kind) → kind_number k < 10
kind_below kind.Attribute = omega arith
kind_below k = omega arith

counts_above : (r : Relation) → 11 < table_number (Counts r)
counts_above Dial = omega arith
counts_above r = omega arith

far_apart : (a b : ℕ) → a < 10 → 11 < b → ((a + 2 == b) ≡ false) × ((b == a + 2) ≡ false)
far_apart a b h j = (ne_eqb (a + 2) b (λ e. absurd (omega arith)), ne_eqb b (a + 2) (λ e. absurd (omega arith)))

counts_not_records : (r : Relation) (k : Kind) → (table_number (Counts r) == kind_number k + 2) ≡ false
counts_not_records r k = (far_apart (kind_number k) (table_number (Counts r)) (kind_below k) (counts_above r)).1

nexts_not_counts : (r : Relation) → (1 == table_number (Counts r)) ≡ false
nexts_not_counts Dial = refl
nexts_not_counts r = refl

setting_not_counts : (r : Relation) → (2 == table_number (Counts r)) ≡ false
setting_not_counts Dial = refl
setting_not_counts r = refl

records_not_counts : (k : Kind) (r : Relation) → (kind_number k + 2 == table_number (Counts r)) ≡ false
records_not_counts k r = (far_apart (kind_number k) (table_number (Counts r)) (kind_below k) (counts_above r)).0

-- the last two tables are none of the others
records_not_last : (k : Kind) → ((kind_number k + 2 == 16) ≡ false) × ((kind_number k + 2 == 17) ≡ false)
records_not_last kind.Attribute = (refl, refl)
records_not_last k = (refl, refl)

last_not_records : (k : Kind) → ((16 == kind_number k + 2) ≡ false) × ((17 == kind_number k + 2) ≡ false)
last_not_records kind.Attribute = (refl, refl)
last_not_records k = (refl, refl)

counts_not_last : (r : Relation) → ((table_number (Counts r) == 16) ≡ false) × ((table_number (Counts r) == 17) ≡ false)
counts_not_last Dial = (refl, refl)
counts_not_last r = (refl, refl)

last_not_counts : (r : Relation) → ((16 == table_number (Counts r)) ≡ false) × ((17 == table_number (Counts r)) ≡ false)
last_not_counts Dial = (refl, refl)
last_not_counts r = (refl, refl)

same_counts : (r q : Relation) → (table_number (Counts q) == table_number (Counts r)) ≡ same_relation r q
same_counts Dial Dial = refl
same_counts Bind Bind = refl
same_counts IdentityRouter IdentityRouter = refl
same_counts ServiceRouter ServiceRouter = refl
same_counts r q = refl

-- ---- next numbers

pub nexts_at : (f : Format) (xs : List Thing) (a b : ℕ) → value_at key_cmp (entries f xs) (1, a, b) ≡ cond (b == 0) (option_map long (first_next a xs)) None
nexts_at f [] a b = none_at (b == 0)
nexts_at f (NextNumber k n ∷ xs) a b =
    value_at-one (entry_of f (NextNumber k n)) (entries f xs) (1, a, b)
    ∙ ap (λ w. cond ((k == a) && (0 == b)) (Some (long n)) w) (nexts_at f xs a b) ∙ by (k == a) (0 == b) (b == 0) (eqb_sym 0 b) (first_next a xs)
  where
    by : (c d e : Bool) → d ≡ e → (o : Option ℕ)
        → cond (c && d) (Some (long n)) (cond e (option_map long o) None) ≡ cond e (option_map long (cond c (Some n) o)) None
    by true true true s o = refl
    by true true false s o = absurd (cc)
    by true false true s o = absurd (cc)
    by true false false s o = refl
    by false d e s o = refl
nexts_at f (TheSetting cost ∷ xs) a b = value_at-later (entry_of f (TheSetting cost)) (entries f xs) (1, a, b) refl ∙ nexts_at f xs a b
nexts_at f (OneRecord k n r ∷ xs) a b = value_at-later (entry_of f (OneRecord k n r)) (entries f xs) (1, a, b) (records_not_nexts k) ∙ nexts_at f xs a b
nexts_at f (OneCount r c d n ∷ xs) a b = value_at-later (entry_of f (OneCount r c d n)) (entries f xs) (1, a, b) (counts_not_nexts r) ∙ nexts_at f xs a b
nexts_at f (OneIntercept n i ∷ xs) a b = value_at-later (entry_of f (OneIntercept n i)) (entries f xs) (1, a, b) refl ∙ nexts_at f xs a b
nexts_at f (TheSerial n ∷ xs) a b = value_at-later (entry_of f (TheSerial n)) (entries f xs) (1, a, b) refl ∙ nexts_at f xs a b

-- ---- the setting

-- The first setting that some things have.
abbrev pub first_setting : List Thing → Option ℕ
first_setting [] = None
first_setting (TheSetting cost ∷ xs) = Some cost
first_setting (x ∷ xs) = first_setting xs

pub setting_at : (f : Format) (xs : List Thing) → list_all is_thing xs ≡ true → (a b : ℕ)
    → value_at key_cmp (entries f xs) (2, a, b) ≡ cond (a == 0 && b == 0) (option_map long (first_setting xs)) None
setting_at f [] h a b = none_at (a == 0 && b == 0)
setting_at f (NextNumber k n ∷ xs) h a b =
    value_at-later (entry_of f (NextNumber k n)) (entries f xs) (2, a, b) refl ∙ setting_at f xs (and_parts _ _ h).1 a b
setting_at f (TheSetting cost ∷ xs) h a b =
    value_at-one (entry_of f (TheSetting cost)) (entries f xs) (2, a, b)
    ∙ ap (λ w. cond ((0 == a) && (0 == b)) (Some (long cost)) w) (setting_at f xs (and_parts (is_thing (TheSetting cost)) (list_all is_thing xs) h).1 a b)
    ∙ ap₂ (λ c d. cond (c && d) (Some (long cost)) (cond (a == 0 && b == 0) (option_map long (first_setting xs)) None)) (eqb_sym 0 a) (eqb_sym 0 b)
    ∙ by (a == 0 && b == 0) (option_map long (first_setting xs))
  where
    by : (c : Bool) (o : Option (List ℕ)) → cond c (Some (long cost)) (cond c o None) ≡ cond c (Some (long cost)) None
    by true o = refl
    by false o = refl
setting_at f (OneRecord k n r ∷ xs) h a b =
    let parts = and_parts (is_thing (OneRecord k n r)) (list_all is_thing xs) h in
    value_at-later (entry_of f (OneRecord k n r)) (entries f xs) (2, a, b) (records_not_setting k parts.0) ∙ setting_at f xs parts.1 a b
setting_at f (OneCount r c d n ∷ xs) h a b =
    let parts = and_parts (is_thing (OneCount r c d n)) (list_all is_thing xs) h in
    value_at-later (entry_of f (OneCount r c d n)) (entries f xs) (2, a, b) (counts_not_setting r) ∙ setting_at f xs parts.1 a b
setting_at f (OneIntercept n i ∷ xs) h a b = value_at-later (entry_of f (OneIntercept n i)) (entries f xs) (2, a, b) refl ∙ setting_at f xs (and_parts (is_thing (OneIntercept n i)) (list_all is_thing xs) h).1 a b
setting_at f (TheSerial n ∷ xs) h a b = value_at-later (entry_of f (TheSerial n)) (entries f xs) (2, a, b) refl ∙ setting_at f xs (and_parts (is_thing (TheSerial n)) (list_all is_thing xs) h).1 a b

-- no setting comes behind the setting
no_setting : (f : Format) (xs : List Thing) → Above key_cmp (2, 0, 0) (entries f xs) → first_setting xs ≡ None
no_setting f [] h = refl
no_setting f (NextNumber k n ∷ xs) h = no_setting f xs h.1
no_setting f (TheSetting cost ∷ xs) h = absurd (never_less key_total (2, 0, 0) h.0)
no_setting f (OneRecord k n r ∷ xs) h = no_setting f xs h.1
no_setting f (OneCount r a b c ∷ xs) h = no_setting f xs h.1
no_setting f (OneIntercept n i ∷ xs) h = no_setting f xs h.1
no_setting f (TheSerial n ∷ xs) h = no_setting f xs h.1

joined-setting : (k : Kind) (n : ℕ) (r : Record k) (s : State) → (joined k n r s).least_router_cost ≡ s.least_router_cost
joined-setting k n r s =
    ap (λ (t : State). t.least_router_cost) (joined-is k n r s) ∙ with_table-setting k (record { rows = with_last (table k s).rows n r; next = n + 1 }) s

pub built-setting : (f : Format) (xs : List Thing) (s : State) → Rises key_cmp (entries f xs) → (built_of xs s).least_router_cost ≡ unwrap_or (first_setting xs) s.least_router_cost
built-setting f [] s r = refl
built-setting f (NextNumber k n ∷ xs) s r = built-setting f xs s r.1
built-setting f (TheSetting cost ∷ xs) s r =
    built-setting f xs (record s { least_router_cost = cost }) r.1 ∙ ap (λ o. unwrap_or o cost) (no_setting f xs r.0)
built-setting f (OneRecord k n q ∷ xs) s r =
    built-setting f xs (joined k n q s) r.1 ∙ ap (λ c. unwrap_or (first_setting xs) c) (joined-setting k n q s)
built-setting f (OneCount q a b c ∷ xs) s r = built-setting f xs s r.1
built-setting f (OneIntercept n i ∷ xs) s r = built-setting f xs (claimed n i s) r.1
built-setting f (TheSerial n ∷ xs) s r = built-setting f xs (record s { serial = n }) r.1

-- ---- the serial

-- The first serial that some things have.
abbrev pub first_serial : List Thing → Option ℕ
first_serial [] = None
first_serial (TheSerial n ∷ xs) = Some n
first_serial (x ∷ xs) = first_serial xs

pub serial_at : (f : Format) (xs : List Thing) (a b : ℕ) → value_at key_cmp (entries f xs) (17, a, b) ≡ cond (a == 0 && b == 0) (option_map wide (first_serial xs)) None
serial_at f [] a b = none_at (a == 0 && b == 0)
serial_at f (NextNumber k n ∷ xs) a b = value_at-later (entry_of f (NextNumber k n)) (entries f xs) (17, a, b) refl ∙ serial_at f xs a b
serial_at f (TheSetting cost ∷ xs) a b = value_at-later (entry_of f (TheSetting cost)) (entries f xs) (17, a, b) refl ∙ serial_at f xs a b
serial_at f (OneRecord k n r ∷ xs) a b = value_at-later (entry_of f (OneRecord k n r)) (entries f xs) (17, a, b) (records_not_last k).1 ∙ serial_at f xs a b
serial_at f (OneCount r c d n ∷ xs) a b = value_at-later (entry_of f (OneCount r c d n)) (entries f xs) (17, a, b) (counts_not_last r).1 ∙ serial_at f xs a b
serial_at f (OneIntercept n i ∷ xs) a b = value_at-later (entry_of f (OneIntercept n i)) (entries f xs) (17, a, b) refl ∙ serial_at f xs a b
serial_at f (TheSerial n ∷ xs) a b =
    value_at-one (entry_of f (TheSerial n)) (entries f xs) (17, a, b)
    ∙ ap (λ w. cond ((0 == a) && (0 == b)) (Some (wide n)) w) (serial_at f xs a b)
    ∙ ap₂ (λ c d. cond (c && d) (Some (wide n)) (cond (a == 0 && b == 0) (option_map wide (first_serial xs)) None)) (eqb_sym 0 a) (eqb_sym 0 b)
    ∙ by (a == 0 && b == 0) (option_map wide (first_serial xs))
  where
    by : (c : Bool) (o : Option (List ℕ)) → cond c (Some (wide n)) (cond c o None) ≡ cond c (Some (wide n)) None
    by true o = refl
    by false o = refl

-- no serial comes behind the serial
no_serial : (f : Format) (xs : List Thing) → Above key_cmp (17, 0, 0) (entries f xs) → first_serial xs ≡ None
no_serial f [] h = refl
no_serial f (TheSerial n ∷ xs) h = absurd (never_less key_total (17, 0, 0) h.0)
no_serial f (NextNumber k n ∷ xs) h = no_serial f xs h.1
no_serial f (x ∷ xs) h = no_serial f xs h.1

joined-serial : (k : Kind) (n : ℕ) (r : Record k) (s : State) → (joined k n r s).serial ≡ s.serial
joined-serial k n r s =
    ap (λ (t : State). t.serial) (joined-is k n r s) ∙ with_table-serial k (record { rows = with_last (table k s).rows n r; next = n + 1 }) s

pub built-serial : (f : Format) (xs : List Thing) (s : State) → Rises key_cmp (entries f xs) → (built_of xs s).serial ≡ unwrap_or (first_serial xs) s.serial
built-serial f [] s r = refl
built-serial f (NextNumber k n ∷ xs) s r = built-serial f xs s r.1
built-serial f (TheSetting cost ∷ xs) s r = built-serial f xs (record s { least_router_cost = cost }) r.1
built-serial f (OneRecord k n q ∷ xs) s r =
    built-serial f xs (joined k n q s) r.1 ∙ ap (λ c. unwrap_or (first_serial xs) c) (joined-serial k n q s)
built-serial f (OneCount q a b c ∷ xs) s r = built-serial f xs s r.1
built-serial f (OneIntercept n i ∷ xs) s r = built-serial f xs (claimed n i s) r.1
built-serial f (TheSerial n ∷ xs) s r = built-serial f xs (record s { serial = n }) r.1 ∙ ap (λ o. unwrap_or o n) (no_serial f xs r.0)

-- ---- counts

pub counts_at : (f : Format) (r : Relation) (xs : List Thing) (a b : ℕ) → value_at key_cmp (entries f xs) (table_number (Counts r), a, b) ≡ option_map (count_bytes f) (first_count r a b xs)
counts_at f r [] a b = refl
counts_at f r (NextNumber k n ∷ xs) a b =
    value_at-later (entry_of f (NextNumber k n)) (entries f xs) (table_number (Counts r), a, b) (nexts_not_counts r) ∙ counts_at f r xs a b
counts_at f r (TheSetting cost ∷ xs) a b =
    value_at-later (entry_of f (TheSetting cost)) (entries f xs) (table_number (Counts r), a, b) (setting_not_counts r) ∙ counts_at f r xs a b
counts_at f r (OneRecord k n q ∷ xs) a b =
    value_at-later (entry_of f (OneRecord k n q)) (entries f xs) (table_number (Counts r), a, b) (records_not_counts k r) ∙ counts_at f r xs a b
counts_at f r (OneIntercept n i ∷ xs) a b =
    value_at-later (entry_of f (OneIntercept n i)) (entries f xs) (table_number (Counts r), a, b) (last_not_counts r).0 ∙ counts_at f r xs a b
counts_at f r (TheSerial n ∷ xs) a b =
    value_at-later (entry_of f (TheSerial n)) (entries f xs) (table_number (Counts r), a, b) (last_not_counts r).1 ∙ counts_at f r xs a b
counts_at f r (OneCount q c d n ∷ xs) a b =
    value_at-one (entry_of f (OneCount q c d n)) (entries f xs) (table_number (Counts r), a, b)
    ∙ ap (λ w. cond ((table_number (Counts q) == table_number (Counts r)) && ((c == a) && (d == b))) (Some (count_bytes f n)) w) (counts_at f r xs a b)
    ∙ ap (λ t. cond (t && ((c == a) && (d == b))) (Some (count_bytes f n)) (option_map (count_bytes f) (first_count r a b xs))) (same_counts r q)
    ∙ by (same_relation r q && ((c == a) && (d == b))) (first_count r a b xs)
  where
    by : (t : Bool) (o : Option ℕ) → cond t (Some (count_bytes f n)) (option_map (count_bytes f) o) ≡ option_map (count_bytes f) (cond t (Some n) o)
    by true o = refl
    by false o = refl

-- ---- records

-- The rows that stand in a table.
abbrev in_table : ℕ → Rows → Rows
in_table t xs = filter (λ y. y.0.0 == t) xs

in_table-joined : (t : ℕ) (x : Key × List ℕ) (xs : Rows) → in_table t (x ∷ xs) ≡ in_table t (x ∷ []) ++ in_table t xs
in_table-joined t x xs = by (x.0.0 == t)
  where
    by : (b : Bool) → cond b (x ∷ in_table t xs) (in_table t xs) ≡ cond b (x ∷ []) [] ++ in_table t xs
    by true = refl
    by false = refl

-- what stands at a key stands there in the rows of its table
value_at-in_table : (xs : Rows) (q : Key) → value_at key_cmp (in_table q.0 xs) q ≡ value_at key_cmp xs q
value_at-in_table [] q = refl
value_at-in_table (x ∷ xs) q = by (x.0.0 == q.0) refl (value_at-in_table xs q)
  where
    by : (b : Bool) → (x.0.0 == q.0) ≡ b → value_at key_cmp (in_table q.0 xs) q ≡ value_at key_cmp xs q
        → value_at key_cmp (cond b (x ∷ in_table q.0 xs) (in_table q.0 xs)) q ≡ value_at key_cmp (x ∷ xs) q
    by true is e = ap (λ w. cond (is_eq (key_cmp x.0 q)) (Some x.1) w) e
    by false is e = e ∙ sym (value_at-later x xs q is)

unchanged : (f : Format) (k : Kind) (s : State) (x : Key × List ℕ) → (x.0.0 == kind_number k + 2) ≡ false
    → rows_in f (Records k) s ≡ rows_in f (Records k) s ++ in_table (kind_number k + 2) (x ∷ [])
unchanged f k s x e = sym (ap (λ b. rows_in f (Records k) s ++ cond b (x ∷ []) []) e ∙ append-nil (rows_in f (Records k) s))

one_more : {R : Type 0} (t n : ℕ) (g : R → List ℕ) (rows : List (ℕ × R)) (r : R)
    → map {B = Key × List ℕ} (λ x. ((t, x.0, 0), g x.1)) (with_last rows n r) ≡ map {B = Key × List ℕ} (λ x. ((t, x.0, 0), g x.1)) rows ++ ((t, n, 0), g r) ∷ []
one_more t n g rows r = map-append {B = Key × List ℕ} (λ x. ((t, x.0, 0), g x.1)) rows ((n, r) ∷ [])

joined-rows : (f : Format) (k : Kind) → nat_le 1 (kind_number k) ≡ true → (j : Kind) → nat_le 1 (kind_number j) ≡ true → (n : ℕ) (r : Record j) (s : State)
    → rows_in f (Records k) (with_table j (record { rows = with_last (table j s).rows n r; next = n + 1 }) s)
    ≡ rows_in f (Records k) s ++ in_table (kind_number k + 2) (entry_of f (OneRecord j n r) ∷ [])
joined-rows f kind.Attribute h j i n r s = absurd (cc)
joined-rows f k h kind.Attribute i n r s = absurd (cc)
joined-rows f kind.Identity h kind.Identity i n r s = one_more 3 n (record_value kind.Identity) s.identities.rows r
joined-rows f kind.Service h kind.Service i n r s = one_more 4 n (record_value kind.Service) s.services.rows r
joined-rows f kind.Router h kind.Router i n r s = one_more 5 n (record_value kind.Router) s.routers.rows r
joined-rows f kind.Link h kind.Link i n r s = one_more 6 n (record_value kind.Link) s.links.rows r
joined-rows f kind.ServicePolicy h kind.ServicePolicy i n r s = one_more 7 n (record_value kind.ServicePolicy) s.service_policies.rows r
joined-rows f kind.EdgeRouterPolicy h kind.EdgeRouterPolicy i n r s = one_more 8 n (record_value kind.EdgeRouterPolicy) s.edge_router_policies.rows r
joined-rows f kind.ServiceEdgeRouterPolicy h kind.ServiceEdgeRouterPolicy i n r s =
    one_more 9 n (record_value kind.ServiceEdgeRouterPolicy) s.service_edge_router_policies.rows r
joined-rows f kind.Terminator h kind.Terminator i n r s = one_more 10 n (record_value kind.Terminator) s.terminators.rows r
joined-rows f kind.Circuit h kind.Circuit i n r s = one_more 11 n (record_value kind.Circuit) s.circuits.rows r
joined-rows f k h j i n r s = sym (append-nil (rows_in f (Records k) s))

with_setting-rows : (f : Format) (k : Kind) (cost : ℕ) (s : State) → rows_in f (Records k) (record s { least_router_cost = cost }) ≡ rows_in f (Records k) s
with_setting-rows f kind.Attribute cost s = refl
with_setting-rows f k cost s = refl

with_claims-rows : (f : Format) (k : Kind) (is : List (ℕ × Intercept)) (n : ℕ) (s : State) → rows_in f (Records k) (record s { intercepts = is; serial = n }) ≡ rows_in f (Records k) s
with_claims-rows f kind.Attribute is n s = refl
with_claims-rows f k is n s = refl

with_thing-rows : (f : Format) (k : Kind) → nat_le 1 (kind_number k) ≡ true → (x : Thing) → is_thing x ≡ true → (s : State)
    → rows_in f (Records k) (with_thing x s) ≡ rows_in f (Records k) s ++ in_table (kind_number k + 2) (entry_of f x ∷ [])
with_thing-rows f k h (NextNumber j n) i s = unchanged f k s (entry_of f (NextNumber j n)) (nexts_not_records k)
with_thing-rows f k h (TheSetting cost) i s = with_setting-rows f k cost s ∙ unchanged f k s (entry_of f (TheSetting cost)) (setting_not_records k h)
with_thing-rows f k h (OneRecord j n r) i s = ap (rows_in f (Records k)) (joined-is j n r s) ∙ joined-rows f k h j i n r s
with_thing-rows f k h (OneCount r a b c) i s = unchanged f k s (entry_of f (OneCount r a b c)) (counts_not_records r k)
with_thing-rows f k h (OneIntercept n i) j s = with_claims-rows f k (with_last s.intercepts n i) s.serial s ∙ unchanged f k s (entry_of f (OneIntercept n i)) (last_not_records k).0
with_thing-rows f k h (TheSerial n) j s = with_claims-rows f k s.intercepts n s ∙ unchanged f k s (entry_of f (TheSerial n)) (last_not_records k).1

built-rows : (f : Format) (k : Kind) → nat_le 1 (kind_number k) ≡ true → (xs : List Thing) (s : State) → list_all is_thing xs ≡ true
    → rows_in f (Records k) (built_of xs s) ≡ rows_in f (Records k) s ++ in_table (kind_number k + 2) (entries f xs)
built-rows f k h [] s i = sym (append-nil (rows_in f (Records k) s))
built-rows f k h (x ∷ xs) s i =
    let t = kind_number k + 2 in
    let parts = and_parts (is_thing x) (list_all is_thing xs) i in
    built-rows f k h xs (with_thing x s) parts.1
    ∙ ap (λ rows. rows ++ in_table t (entries f xs)) (with_thing-rows f k h x parts.0 s)
    ∙ append_assoc (rows_in f (Records k) s) (in_table t (entry_of f x ∷ [])) (in_table t (entries f xs))
    ∙ ap (λ rows. rows_in f (Records k) s ++ rows) (sym (in_table-joined t (entry_of f x) (entries f xs)))

no_rows_at_start : (f : Format) (k : Kind) → rows_in f (Records k) start ≡ []
no_rows_at_start f kind.Attribute = refl
no_rows_at_start f k = refl

pub records_at : (f : Format) (k : Kind) → nat_le 1 (kind_number k) ≡ true → (xs : List Thing) → list_all is_thing xs ≡ true → (a b : ℕ)
    → value_at key_cmp (entries f xs) (kind_number k + 2, a, b) ≡ cond (b == 0) (option_map (record_value k) (at (table k (built_of xs start)).rows a)) None
records_at f k h xs i a b =
    let t = kind_number k + 2 in
    let found = cond (b == 0) (option_map (record_value k) (at (table k (built_of xs start)).rows a)) None in
    sym (value_at-in_table (entries f xs) (t, a, b))
    ∙ ap (λ (rows : Rows). value_at key_cmp rows (t, a, b))
    (sym (built-rows f k h xs start i ∙ ap (λ rows. rows ++ in_table t (entries f xs)) (no_rows_at_start f k)))
    ∙ value_at-records t (record_value k) (table k (built_of xs start)).rows (t, a, b) ∙ cond-true (t == t) found None (eq-eqb t t refl)

-- ---- intercepts

joined-intercepts : (k : Kind) (n : ℕ) (r : Record k) (s : State) → (joined k n r s).intercepts ≡ s.intercepts
joined-intercepts k n r s =
    ap (λ (t : State). t.intercepts) (joined-is k n r s) ∙ with_table-intercepts k (record { rows = with_last (table k s).rows n r; next = n + 1 }) s

-- The rows of some intercepts.
abbrev claimed_rows : List (ℕ × Intercept) → Rows
claimed_rows is = map (λ x. ((16, x.0, 0), intercept_value x.1)) is

still_claimed : (is : List (ℕ × Intercept)) (x : Key × List ℕ) → (x.0.0 == 16) ≡ false → claimed_rows is ≡ claimed_rows is ++ in_table 16 (x ∷ [])
still_claimed is x e = sym (ap (λ b. claimed_rows is ++ cond b (x ∷ []) []) e ∙ append-nil (claimed_rows is))

with_thing-claims : (f : Format) (x : Thing) (s : State) → claimed_rows (with_thing x s).intercepts ≡ claimed_rows s.intercepts ++ in_table 16 (entry_of f x ∷ [])
with_thing-claims f (NextNumber j n) s = still_claimed s.intercepts (entry_of f (NextNumber j n)) refl
with_thing-claims f (TheSetting cost) s = still_claimed s.intercepts (entry_of f (TheSetting cost)) refl
with_thing-claims f (OneRecord j n r) s = ap claimed_rows (joined-intercepts j n r s) ∙ still_claimed s.intercepts (entry_of f (OneRecord j n r)) (records_not_last j).0
with_thing-claims f (OneCount r a b c) s = still_claimed s.intercepts (entry_of f (OneCount r a b c)) (counts_not_last r).0
with_thing-claims f (OneIntercept n i) s = one_more 16 n intercept_value s.intercepts i
with_thing-claims f (TheSerial n) s = still_claimed s.intercepts (entry_of f (TheSerial n)) refl

built-claims : (f : Format) (xs : List Thing) (s : State) → claimed_rows (built_of xs s).intercepts ≡ claimed_rows s.intercepts ++ in_table 16 (entries f xs)
built-claims f [] s = sym (append-nil (claimed_rows s.intercepts))
built-claims f (x ∷ xs) s =
    built-claims f xs (with_thing x s)
    ∙ ap (λ rows. rows ++ in_table 16 (entries f xs)) (with_thing-claims f x s)
    ∙ append_assoc (claimed_rows s.intercepts) (in_table 16 (entry_of f x ∷ [])) (in_table 16 (entries f xs))
    ∙ ap (λ rows. claimed_rows s.intercepts ++ rows) (sym (in_table-joined 16 (entry_of f x) (entries f xs)))

pub intercepts_at : (f : Format) (xs : List Thing) (a b : ℕ)
    → value_at key_cmp (entries f xs) (16, a, b) ≡ cond (b == 0) (option_map intercept_value (at (built_of xs start).intercepts a)) None
intercepts_at f xs a b =
    sym (value_at-in_table (entries f xs) (16, a, b))
    ∙ ap (λ (rows : Rows). value_at key_cmp rows (16, a, b)) (sym (built-claims f xs start))
    ∙ value_at-records 16 intercept_value (built_of xs start).intercepts (16, a, b)

-- ---- where no thing is an intercept or a serial, the state has none

pub built-plain : (xs : List Thing) (s : State) → list_all is_plain xs ≡ true → ((built_of xs s).intercepts ≡ s.intercepts) × ((built_of xs s).serial ≡ s.serial)
built-plain [] s h = (refl, refl)
built-plain (NextNumber k n ∷ xs) s h = built-plain xs s h
built-plain (TheSetting cost ∷ xs) s h = built-plain xs (record s { least_router_cost = cost }) h
built-plain (OneRecord k n r ∷ xs) s h =
    let later = built-plain xs (joined k n r s) h in (later.0 ∙ joined-intercepts k n r s, later.1 ∙ joined-serial k n r s)
built-plain (OneCount r a b c ∷ xs) s h = built-plain xs s h
built-plain (OneIntercept n i ∷ xs) s h = absurd (cc)
built-plain (TheSerial n ∷ xs) s h = absurd (cc)
