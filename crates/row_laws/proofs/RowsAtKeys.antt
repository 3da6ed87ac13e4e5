-- What the rows of a state have at a key: what the state has there, table by table.
use Rattle.std.proofs.Common.{◌≡◌, ℕ, ◌+◌, ◌==◌, ◌&&◌, ◌||◌, Bool, true, false, cond, List, [], ◌∷◌, map, find, flat_map, Option, None, Some, option_and_then, option_map, refl, sym, ◌∙◌, ap, ap₂, arith, eqb-true, count_by}
use Rattle.std.proofs.lemmas.Bool.{true≢false, false≢true}
use Rattle.std.proofs.lemmas.Bool.Decides.{nat_tests}
use Rattle.std.specs.List.{list_any}
use Rattle.ctrl_model.specs.declared.formats.Format.{Format}
use Rattle.ctrl_model.specs.declared.formats.Format.TheVariants.{One, Two}
use Rattle.ctrl_model.specs.declared.kinds.Kind.{Kind}
use Rattle.ctrl_model.specs.declared.kinds.Relation.{Relation}
use Rattle.ctrl_model.specs.declared.kinds.Relation.TheVariants.{Dial, Bind, IdentityRouter, ServiceRouter}
use Rattle.ctrl_model.specs.Numbered.{at, numbers}
use Rattle.ctrl_model.specs.State.{State, Entity, as_entity}
use Rattle.ctrl_model.specs.Tables.{table}
use Rattle.ctrl_model.specs.Grants.{count, joins, policies_for, on_both, left_entity, right_entity, left_numbers, right_numbers}
use Rattle.row_codec.specs.RowKeys.{RowTable, Key, kinds, kind_number, key_in, key_cmp, table_number, tables_of}
use Rattle.row_codec.specs.RowKeys.RowTable.{Next, Setting, Records, Counts, Intercepts, Serial}
use Rattle.row_codec.specs.RowValues.{record_value, intercept_value}
use Rattle.row_codec.specs.RowDifference.{value_at}
use Rattle.row_codec.specs.StateRows.{next_value, setting_value, serial_value, count_value, row_if_some, rows_in, rows_of, row_in, row_at}
use Rattle.row_laws.specs.ChangedKeys.{Climbs}
use Rattle.row_laws.proofs.KeyOrders.{is_eq-key_cmp}
use Rattle.row_laws.proofs.JoinedRows.{Climbs-from, pick, pick_alike}

eqb_sym : (a b : ℕ) → (a == b) ≡ (b == a)
eqb_sym a b = grind (arith, nat_tests)

-- ---- one row

value_at-row : (key : Key) (o : Option (List ℕ)) (q : Key) → value_at key_cmp (row_if_some key o) q ≡ cond ((key.0 == q.0) && ((key.1 == q.1) && (key.2 == q.2))) o None
value_at-row key None q = by ((key.0 == q.0) && ((key.1 == q.1) && (key.2 == q.2)))
  where
    by : (b : Bool) → ◌≡◌ {A = Option (List ℕ)} None (cond b None None)
    by true = refl
    by false = refl
value_at-row key (Some v) q = ap (λ b. cond b (Some v) None) (is_eq-key_cmp key q)

-- ---- each table

value_at-next : (f : Format) (s : State) (q : Key) → value_at key_cmp (rows_in f Next s) q ≡ cond (1 == q.0) (row_in f Next s q.1 q.2) None
value_at-next f s q =
    pick kind_number (λ k. row_if_some (1, kind_number k, 0) (next_value (table k s).next))
    (λ k. cond ((1 == q.0) && (0 == q.2)) (next_value (table k s).next) None) q q.1 each kinds (Climbs-from kind_number kinds refl)
    ∙ by (1 == q.0) (0 == q.2) (q.2 == 0) (eqb_sym 0 q.2) (find (λ k. kind_number k == q.1) kinds)
  where
    each_by : (b c d : Bool) (v : Option (List ℕ)) → cond (b && (c && d)) v None ≡ cond c (cond (b && d) v None) None
    each_by true true d v = refl
    each_by true false d v = refl
    each_by false true d v = refl
    each_by false false d v = refl

    each : (k : Kind) → value_at key_cmp (row_if_some (1, kind_number k, 0) (next_value (table k s).next)) q
        ≡ cond (kind_number k == q.1) (cond ((1 == q.0) && (0 == q.2)) (next_value (table k s).next) None) None
    each k = value_at-row (1, kind_number k, 0) (next_value (table k s).next) q ∙ each_by (1 == q.0) (kind_number k == q.1) (0 == q.2) (next_value (table k s).next)

    by : (b c d : Bool) → c ≡ d → (o : Option Kind) → option_and_then (λ k. cond (b && c) (next_value (table k s).next) None) o
        ≡ cond b (cond d (option_and_then (λ k. next_value (table k s).next) o) None) None
    by true true true e o = refl
    by true true false e o = absurd (true≢false e)
    by true false true e o = absurd (false≢true e)
    by true false false e None = refl
    by true false false e (Some k) = refl
    by false c d e None = refl
    by false c d e (Some k) = refl

-- a row without numbers
value_at-lone : (n : ℕ) (v : Option (List ℕ)) (q : Key) → value_at key_cmp (row_if_some (n, 0, 0) v) q ≡ cond (n == q.0) (cond ((q.1 == 0) && (q.2 == 0)) v None) None
value_at-lone n v q =
    value_at-row (n, 0, 0) v q
    ∙ ap₂ (λ b c. cond ((n == q.0) && (b && c)) v None) (eqb_sym 0 q.1) (eqb_sym 0 q.2)
    ∙ by (n == q.0) ((q.1 == 0) && (q.2 == 0)) v
  where
    by : (b c : Bool) (v : Option (List ℕ)) → cond (b && c) v None ≡ cond b (cond c v None) None
    by true c v = refl
    by false c v = refl

-- the rows of a table of records
pub value_at-records : {R : Type 0} (t : ℕ) (f : R → List ℕ) (rows : List (ℕ × R)) (q : Key)
    → value_at key_cmp (map (λ x. ((t, x.0, 0), f x.1)) rows) q ≡ cond (t == q.0) (cond (q.2 == 0) (option_map f (at rows q.1)) None) None
value_at-records t f [] q = by (t == q.0) (q.2 == 0)
  where
    by : (b c : Bool) → ◌≡◌ {A = Option (List ℕ)} None (cond b (cond c None None) None)
    by true true = refl
    by true false = refl
    by false c = refl
value_at-records t f (x ∷ xs) q =
    ap (λ b. cond b (Some (f x.1)) (value_at key_cmp (map (λ x. ((t, x.0, 0), f x.1)) xs) q)) (is_eq-key_cmp (t, x.0, 0) q)
    ∙ ap (λ w. cond ((t == q.0) && ((x.0 == q.1) && (0 == q.2))) (Some (f x.1)) w) (value_at-records t f xs q)
    ∙ by (t == q.0) (x.0 == q.1) (0 == q.2) (q.2 == 0) (eqb_sym 0 q.2)
  where
    by : (b c d e : Bool) → d ≡ e → cond (b && (c && d)) (Some (f x.1)) (cond b (cond e (option_map f (at xs q.1)) None) None)
        ≡ cond b (cond e (option_map f (cond c (Some x.1) (at xs q.1))) None) None
    by true true true true k = refl
    by true true true false k = absurd (true≢false k)
    by true true false true k = absurd (false≢true k)
    by true true false false k = refl
    by true false d e k = refl
    by false c d e k = refl

-- ---- the counts of a relation

absent : {R : Type 0} (rows : List (ℕ × R)) (n : ℕ) → list_any (λ x. x == n) (numbers rows) ≡ false → at rows n ≡ None
absent [] n e = refl
absent (x ∷ xs) n e = by (x.0 == n) e (absent xs n)
  where
    by : (b : Bool) → (b || list_any (λ y. y == n) (numbers xs)) ≡ false → (list_any (λ y. y == n) (numbers xs) ≡ false → at xs n ≡ None)
        → cond b (Some x.1) (at xs n) ≡ None
    by true e h = absurd (true≢false e)
    by false e h = h e

left_absent : (r : Relation) (s : State) (a : ℕ) → list_any (λ x. x == a) (left_numbers r s) ≡ false → left_entity r s a ≡ None
left_absent Dial s a e = absent s.identities.rows a e
left_absent Bind s a e = absent s.identities.rows a e
left_absent IdentityRouter s a e = absent s.identities.rows a e
left_absent ServiceRouter s a e = absent s.services.rows a e

right_absent : (r : Relation) (s : State) (b : ℕ) → list_any (λ x. x == b) (right_numbers r s) ≡ false → right_entity r s b ≡ None
right_absent Dial s b e = absent s.services.rows b e
right_absent Bind s b e = absent s.services.rows b e
right_absent IdentityRouter s b e = ap (option_map as_entity) (absent s.routers.rows b e)
right_absent ServiceRouter s b e = ap (option_map as_entity) (absent s.routers.rows b e)

count-left_absent : (r : Relation) (s : State) (a b : ℕ) → left_entity r s a ≡ None → count r s a b ≡ 0
count-left_absent r s a b e = ap (λ o. on_both o (right_entity r s b) (λ e f. count_by (λ row. joins r row.1 e f) (policies_for r s))) e

count-right_absent : (r : Relation) (s : State) (a b : ℕ) → right_entity r s b ≡ None → count r s a b ≡ 0
count-right_absent r s a b e =
    ap (λ o. on_both (left_entity r s a) o (λ e f. count_by (λ row. joins r row.1 e f) (policies_for r s))) e ∙ by (left_entity r s a)
  where
    by : (o : Option Entity) → on_both o None (λ e f. count_by (λ row. joins r row.1 e f) (policies_for r s)) ≡ 0
    by None = refl
    by (Some e) = refl

value_at-counts : (f : Format) (r : Relation) (s : State) (q : Key) → value_at key_cmp (rows_in f (Counts r) s) q ≡ cond (table_number (Counts r) == q.0) (row_in f (Counts r) s q.1 q.2) None
value_at-counts f r s q =
    pick_alike (λ a. flat_map (λ b. row_if_some (key_in (Counts r) a b) (count_value f (count r s a b))) (right_numbers r s))
    (cond (t == q.0) (cond (list_any (λ x. x == q.2) (right_numbers r s)) (count_value f (count r s q.1 q.2)) None) None) q q.1 outer (left_numbers r s)
    ∙ by (list_any (λ x. x == q.1) (left_numbers r s)) (list_any (λ x. x == q.2) (right_numbers r s)) refl refl (t == q.0)
  where
    t : ℕ
    t = table_number (Counts r)

    inner_by : (u v w : Bool) (a b : ℕ) → (b == q.2) ≡ w → cond (u && (v && w)) (count_value f (count r s a b)) None ≡ cond w (cond (u && v) (count_value f (count r s a q.2)) None) None
    inner_by true true true a b e = ap (λ n. count_value f (count r s a n)) (eqb-true b q.2 e)
    inner_by true true false a b e = refl
    inner_by true false true a b e = refl
    inner_by true false false a b e = refl
    inner_by false v true a b e = refl
    inner_by false v false a b e = refl

    inner : (a b : ℕ) → value_at key_cmp (row_if_some (key_in (Counts r) a b) (count_value f (count r s a b))) q
        ≡ cond (b == q.2) (cond ((t == q.0) && (a == q.1)) (count_value f (count r s a q.2)) None) None
    inner a b = value_at-row (key_in (Counts r) a b) (count_value f (count r s a b)) q ∙ inner_by (t == q.0) (a == q.1) (b == q.2) a b refl

    outer_by : (u v w : Bool) (a : ℕ) → (a == q.1) ≡ v → cond w (cond (u && v) (count_value f (count r s a q.2)) None) None
        ≡ cond v (cond u (cond w (count_value f (count r s q.1 q.2)) None) None) None
    outer_by true true true a e = ap (λ n. count_value f (count r s n q.2)) (eqb-true a q.1 e)
    outer_by true true false a e = refl
    outer_by true false true a e = refl
    outer_by true false false a e = refl
    outer_by false true true a e = refl
    outer_by false true false a e = refl
    outer_by false false true a e = refl
    outer_by false false false a e = refl

    outer : (a : ℕ) → value_at key_cmp (flat_map (λ b. row_if_some (key_in (Counts r) a b) (count_value f (count r s a b))) (right_numbers r s)) q
        ≡ cond (a == q.1) (cond (t == q.0) (cond (list_any (λ x. x == q.2) (right_numbers r s)) (count_value f (count r s q.1 q.2)) None) None) None
    outer a =
        pick_alike (λ b. row_if_some (key_in (Counts r) a b) (count_value f (count r s a b))) (cond ((t == q.0) && (a == q.1)) (count_value f (count r s a q.2)) None) q q.2 (inner a) (right_numbers r s)
        ∙ outer_by (t == q.0) (a == q.1) (list_any (λ x. x == q.2) (right_numbers r s)) a refl

    by : (u v : Bool) → list_any (λ x. x == q.1) (left_numbers r s) ≡ u → list_any (λ x. x == q.2) (right_numbers r s) ≡ v → (w : Bool)
        → cond u (cond w (cond v (count_value f (count r s q.1 q.2)) None) None) None ≡ cond w (count_value f (count r s q.1 q.2)) None
    by u v e g false = by_false u
      where
        by_false : (u : Bool) → ◌≡◌ {A = Option (List ℕ)} (cond u None None) None
        by_false true = refl
        by_false false = refl
    by true true e g true = refl
    by true false e g true = sym (ap (count_value f) (count-right_absent r s q.1 q.2 (right_absent r s q.2 g)))
    by false v e g true = sym (ap (count_value f) (count-left_absent r s q.1 q.2 (left_absent r s q.1 e)))

-- ---- all tables

value_at-table : (f : Format) (t : RowTable) (s : State) (q : Key) → value_at key_cmp (rows_in f t s) q ≡ cond (table_number t == q.0) (row_in f t s q.1 q.2) None
value_at-table f Next s q = value_at-next f s q
value_at-table f Setting s q = value_at-lone 2 (setting_value s.least_router_cost) q
value_at-table f (Records k) s q = value_at-records (kind_number k + 2) (record_value k) (table k s).rows q
value_at-table f (Counts r) s q = value_at-counts f r s q
value_at-table f Intercepts s q = value_at-records 16 intercept_value s.intercepts q
value_at-table f Serial s q = value_at-lone 17 (serial_value s.serial) q

pub tables_climb : (f : Format) → Climbs table_number (tables_of f)
tables_climb One = Climbs-from table_number (tables_of One) refl
tables_climb Two = Climbs-from table_number (tables_of Two) refl

-- the rows of a state have at a key what the state has there
pub value_at-rows_of : (f : Format) (s : State) (q : Key) → value_at key_cmp (rows_of f s) q ≡ row_at f s q
value_at-rows_of f s q =
    pick table_number (λ t. rows_in f t s) (λ t. row_in f t s q.1 q.2) q q.0 (λ t. value_at-table f t s q) (tables_of f) (tables_climb f)
