-- The rows of a valid state in the first format have counts that two bytes hold.
use Rattle.std.proofs.Common.{◌≡◌, ℕ, ◌≤◌, ◌/◌, ◌%◌, ◌^◌, nat_lt, nat_le, ◌&&◌, Bool, true, false, cond, List, [], ◌∷◌, ◌++◌, map, take, None, Some, refl, sym, ap₂, ◌∙◌, true≢false, arith}
use Rattle.std.specs.declared.option.Option.{Option}
use Rattle.std.specs.List.{AllByRecursion, flat_map}
use Rattle.ctrl_model.specs.declared.formats.Format.TheVariants.{One}
use Rattle.ctrl_model.specs.declared.kinds.Kind.{Kind}
use Rattle.ctrl_model.specs.declared.kinds.Kind.TheVariants as kind
use Rattle.ctrl_model.specs.State.{State}
use Rattle.ctrl_model.specs.Tables.{table}
use Rattle.ctrl_model.specs.Grants.{count, left_numbers, right_numbers}
use Rattle.ctrl_model.specs.ValidState.{ValidState}
use Rattle.row_codec.specs.RowKeys.{RowTable, Key, kinds, kind_number, key_in, key_bytes, tables_of_both, table_number}
use Rattle.row_codec.specs.RowKeys.RowTable.{Next, Setting, Records, Counts, Intercepts, Serial}
use Rattle.row_codec.specs.RowValues.{long, record_value, intercept_value}
use Rattle.row_codec.specs.StateRows.{next_value, setting_value, serial_value, count_value, row_if_some, rows_in, rows_of}
use Rattle.row_codec.specs.NarrowedRows.{is_count_key}
use Rattle.row_laws.proofs.RisingRows.{All-each, All-flat_map, All-map}
use Rattle.row_laws.proofs.WrittenRows.{count_most}
use Rattle.slot_reading.specs.BatchRows.{AreNarrow}
use Rattle.row_store.specs.OpenedStates.{byte_rows_of}

-- A row of which two bytes hold the count, if it is one.
abbrev IsNarrow : List ℕ × List ℕ → Type 0
IsNarrow x = is_count_key x.0 ≡ true → x.1 ≡ take 2 x.1 ++ 0 ∷ 0 ∷ []

-- The same of a row under its key.
abbrev IsNarrowRow : Key × List ℕ → Type 0
IsNarrowRow x = IsNarrow (key_bytes x.0, x.1)

-- ---- rows that are no counts

-- Whether the table of this number has counts.
abbrev has_counts : ℕ → Bool
has_counts t = nat_le 12 t && nat_le t 15

no_count : (key : Key) (value : List ℕ) → has_counts key.0 ≡ false → IsNarrowRow (key, value)
no_count key value e = λ is. absurd (true≢false (sym is ∙ e))

lone : (key : Key) → has_counts key.0 ≡ false → (o : Option (List ℕ)) → AllByRecursion IsNarrowRow (row_if_some key o)
lone key e None = tt
lone key e (Some value) = (no_count key value e, tt)

records : {R : Type 0} (t : ℕ) → has_counts t ≡ false → (f : R → List ℕ) (rows : List (ℕ × R)) → AllByRecursion IsNarrowRow (map (λ x. ((t, x.0, 0), f x.1)) rows)
records t e f [] = tt
records t e f (x ∷ xs) = (no_count (t, x.0, 0) (f x.1) e, records t e f xs)

records_are_none : (k : Kind) → has_counts (table_number (Records k)) ≡ false
records_are_none kind.Identity = refl
records_are_none kind.Service = refl
records_are_none kind.Router = refl
records_are_none kind.Link = refl
records_are_none kind.ServicePolicy = refl
records_are_none kind.EdgeRouterPolicy = refl
records_are_none kind.ServiceEdgeRouterPolicy = refl
records_are_none kind.Terminator = refl
records_are_none kind.Circuit = refl
records_are_none kind.Attribute = refl

-- ---- a count

third_byte : (n : ℕ) → n ≤ 512 → n / 65536 % 256 ≡ 0
third_byte n le = omega (arith, le)

fourth_byte : (n : ℕ) → n ≤ 512 → n / 16777216 % 256 ≡ 0
fourth_byte n le = omega (arith, le)

narrow_long : (n : ℕ) → n ≤ 512 → long n ≡ take 2 (long n) ++ 0 ∷ 0 ∷ []
narrow_long n le = ap₂ (λ (a b : ℕ). n % 256 ∷ n / 256 ^ 1 % 256 ∷ a ∷ b ∷ []) (third_byte n le) (fourth_byte n le)

counted : (key : Key) (n : ℕ) → n ≤ 512 → AllByRecursion IsNarrowRow (row_if_some key (count_value One n))
counted key n le = by (nat_lt 0 n)
  where
    by : (above : Bool) → AllByRecursion IsNarrowRow (row_if_some key (cond above (Some (long n)) None))
    by true = (λ _. narrow_long n le, tt)
    by false = tt

-- ---- each table, and all

narrow_table : (s : State) → ValidState s → (t : RowTable) → AllByRecursion IsNarrowRow (rows_in One t s)
narrow_table s v Next =
    All-flat_map IsNarrowRow (λ k. row_if_some (key_in Next (kind_number k) 0) (next_value (table k s).next)) kinds
    (All-each _ (λ (k : Kind). lone (key_in Next (kind_number k) 0) refl (next_value (table k s).next)) kinds)
narrow_table s v Setting = lone (key_in Setting 0 0) refl (setting_value s.least_router_cost)
narrow_table s v (Records k) = records (table_number (Records k)) (records_are_none k) (record_value k) (table k s).rows
narrow_table s v (Counts r) =
    All-flat_map IsNarrowRow (λ a. flat_map (λ b. row_if_some (key_in (Counts r) a b) (count_value One (count r s a b))) (right_numbers r s)) (left_numbers r s)
    (All-each _ (λ (a : ℕ). All-flat_map IsNarrowRow (λ b. row_if_some (key_in (Counts r) a b) (count_value One (count r s a b))) (right_numbers r s)
    (All-each _ (λ (b : ℕ). counted (key_in (Counts r) a b) (count r s a b) (count_most r s v a b)) (right_numbers r s))) (left_numbers r s))
narrow_table s v Intercepts = records 16 refl intercept_value s.intercepts
narrow_table s v Serial = lone (key_in Serial 0 0) refl (serial_value s.serial)

pub narrow_rows_of : (s : State) → ValidState s → AreNarrow (byte_rows_of One s)
narrow_rows_of s v =
    All-map IsNarrow (λ (x : Key × List ℕ). (key_bytes x.0, x.1)) (rows_of One s)
    (All-flat_map IsNarrowRow (λ t. rows_in One t s) tables_of_both (All-each _ (narrow_table s v) tables_of_both))
