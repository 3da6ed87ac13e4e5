-- The change of one row, of a record, of a next number, of the setting, of the serial; and of the rows of a kind's records at some numbers.
use Rattle.std.specs.Prelude.{ℕ, List, map}
use Rattle.std.specs.declared.option.Option.{Option}
use Rattle.std.specs.Option.{option_map}
use Rattle.ctrl_model.specs.declared.kinds.Kind.{Kind}
use Rattle.ctrl_model.specs.Numbered.{at}
use Rattle.ctrl_model.specs.Tables.{Record}
use Rattle.row_codec.specs.declared.changes.Change.{Change}
use Rattle.row_codec.specs.RowKeys.{key_in, key_bytes, kind_number}
use Rattle.row_codec.specs.RowKeys.RowTable.{Next, Setting, Records, Serial}
use Rattle.row_codec.specs.RowValues.{record_value}
use Rattle.row_codec.specs.StateRows.{next_value, serial_value, setting_value}

-- The change of the row of a kind's record under a number: its value before, if it was there, and after, if it is there.
abbrev pub change_of : Kind → ℕ → Option (List ℕ) → Option (List ℕ) → Change
change_of k n before after = record { key = key_bytes (key_in (Records k) n 0); before = before; after = after }

-- The change of the row of a kind's next number, which goes from one to another.
abbrev pub next_change_of : Kind → ℕ → ℕ → Change
next_change_of k before after = record { key = key_bytes (key_in Next (kind_number k) 0); before = next_value before; after = next_value after }

-- The change of the row of the least router cost, which goes from one to another.
abbrev pub setting_change_of : ℕ → ℕ → Change
setting_change_of before after = record { key = key_bytes (key_in Setting 0 0); before = setting_value before; after = setting_value after }

-- The change of the row of the serial, which goes from one to another.
abbrev pub serial_change_of : ℕ → ℕ → Change
serial_change_of before after = record { key = key_bytes (key_in Serial 0 0); before = serial_value before; after = serial_value after }

-- The value of the row of a kind's record under a number, if there is one.
abbrev pub value_at : (k : Kind) → List (ℕ × Record k) → ℕ → Option (List ℕ)
value_at k rows n = option_map (record_value k) (at rows n)

-- The changes of the rows of a kind's records at some numbers, by the values that they have before and after.
abbrev pub changes_at : Kind → (ℕ → Option (List ℕ)) → (ℕ → Option (List ℕ)) → List ℕ → List Change
changes_at k before after ns = map (λ n. change_of k n (before n) (after n)) ns
