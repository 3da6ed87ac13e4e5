-- The rows of a state in a format, in the order of their keys, and the row of a state at a key (docs/FORMATS.md, "Rows").
use Rattle.std.specs.Prelude.{◌≡◌, ℕ, cond, ◌==◌, ◌&&◌, nat_lt, ⊤, List, [], ◌∷◌, map, find, None, Some}
use Rattle.std.specs.declared.option.Option.{Option}
use Rattle.std.specs.Option.{option_map, option_and_then}
use Rattle.std.specs.List.{flat_map}
use Rattle.ctrl_model.specs.declared.formats.Format.{Format}
use Rattle.ctrl_model.specs.declared.formats.Format.TheVariants.{One, Two}
use Rattle.ctrl_model.specs.Numbered.{at}
use Rattle.ctrl_model.specs.State.{State, start}
use Rattle.ctrl_model.specs.Tables.{table}
use Rattle.ctrl_model.specs.Grants.{count, left_numbers, right_numbers}
use Rattle.row_codec.specs.RowKeys.{RowTable, Key, kinds, kind_number, key_in, table_number, tables_of}
use Rattle.row_codec.specs.RowKeys.RowTable.{Next, Setting, Records, Counts, Intercepts, Serial}
use Rattle.row_codec.specs.RowValues.{long, wide, count_bytes, record_value, intercept_value}

-- Rows: values under their keys.
abbrev pub Rows : Type 0
Rows = List (Key × List ℕ)

-- The value of a next number, which has a row where it is above 1.
abbrev pub next_value : ℕ → Option (List ℕ)
next_value n = cond (nat_lt 1 n) (Some (long n)) None

-- The value of the least router cost, which has a row where it is not that of the start.
abbrev pub setting_value : ℕ → Option (List ℕ)
setting_value cost = cond (cost == start.least_router_cost) None (Some (long cost))

-- The value of a grant count, which has a row where it is above 0.
abbrev pub count_value : Format → ℕ → Option (List ℕ)
count_value f n = cond (nat_lt 0 n) (Some (count_bytes f n)) None

-- The value of the serial, which has a row where it is above 0.
abbrev pub serial_value : ℕ → Option (List ℕ)
serial_value n = cond (nat_lt 0 n) (Some (wide n)) None

-- The row under a key, if its value is there.
abbrev pub row_if_some : Key → Option (List ℕ) → Rows
row_if_some key None = []
row_if_some key (Some value) = (key, value) ∷ []

-- The rows of a state in a table, in a format that has the table.
abbrev pub rows_in : Format → RowTable → State → Rows
rows_in f Next s = flat_map (λ k. row_if_some (key_in Next (kind_number k) 0) (next_value (table k s).next)) kinds
rows_in f Setting s = row_if_some (key_in Setting 0 0) (setting_value s.least_router_cost)
rows_in f (Records k) s = map (λ x. (key_in (Records k) x.0 0, record_value k x.1)) (table k s).rows
rows_in f (Counts r) s =
    flat_map (λ a. flat_map (λ b. row_if_some (key_in (Counts r) a b) (count_value f (count r s a b))) (right_numbers r s)) (left_numbers r s)
rows_in f Intercepts s = map (λ x. (key_in Intercepts x.0 0, intercept_value x.1)) s.intercepts
rows_in f Serial s = row_if_some (key_in Serial 0 0) (serial_value s.serial)

-- The rows of a state in a format: those of each of its tables in turn.
abbrev pub rows_of : Format → State → Rows
rows_of f s = flat_map (λ t. rows_in f t s) (tables_of f)

-- A state that a format has rows for: the first one has none of intercepts and of the serial.
abbrev pub HasRows : Format → State → Type 0
HasRows One s = (s.intercepts ≡ []) × (s.serial ≡ 0)
HasRows Two s = ⊤

-- The value that a state has in a table under two numbers, if it has one, in a format that has the table.
abbrev pub row_in : Format → RowTable → State → ℕ → ℕ → Option (List ℕ)
row_in f Next s first second =
    cond (second == 0) (option_and_then (λ k. next_value (table k s).next) (find (λ k. kind_number k == first) kinds)) None
row_in f Setting s first second = cond (first == 0 && second == 0) (setting_value s.least_router_cost) None
row_in f (Records k) s first second = cond (second == 0) (option_map (record_value k) (at (table k s).rows first)) None
row_in f (Counts r) s first second = count_value f (count r s first second)
row_in f Intercepts s first second = cond (second == 0) (option_map intercept_value (at s.intercepts first)) None
row_in f Serial s first second = cond (first == 0 && second == 0) (serial_value s.serial) None

-- The value that a state has at a key, if it has one.
abbrev pub row_at : Format → State → Key → Option (List ℕ)
row_at f s key = option_and_then (λ t. row_in f t s key.1 key.2) (find (λ t. table_number t == key.0) (tables_of f))
