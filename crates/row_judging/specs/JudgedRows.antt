-- Rows judged: the valid state of which they are all rows, if there is one (docs/FORMATS.md, "Rows of a valid state").
use Rattle.std.specs.Prelude.{◌≡◌, ℕ, ◌&&◌, Bool, true, false, cond, List, [], ◌∷◌, None, Some}
use Rattle.std.specs.declared.option.Option.{Option}
use Rattle.std.specs.Option.{option_map, option_and_then, is_none}
use Rattle.std.specs.Str.{bytes_eq}
use Rattle.ctrl_model.specs.declared.formats.Format.{Format}
use Rattle.ctrl_model.specs.declared.kinds.Kind.{Kind}
use Rattle.ctrl_model.specs.State.{State, start}
use Rattle.ctrl_model.specs.ValidState.{ValidState}
use Rattle.row_codec.specs.declared.rows.Row.{Row}
use Rattle.row_codec.specs.StateRows.{rows_of, HasRows}
use Rattle.row_codec.specs.Batches.{spelled_rows}
use Rattle.row_reading.specs.RowReading.{row_of}
use Rattle.state_building.specs.BuiltStates.{flaw_in, with_row, next_in, state_in}
use Rattle.slot_reading.specs.BatchRows.{ByteRows}

-- The rows that keys and values spell in a format, in their order, if each of them spells one.
abbrev pub rows_read : Format → ByteRows → Option (List Row)
rows_read f [] = Some []
rows_read f (x ∷ more) = option_and_then (λ row. option_map (λ rows. row ∷ rows) (rows_read f more)) (row_of f x.0 x.1)

-- Whether each of some rows can come after those before it.
abbrev pub are_flawless : (Kind → ℕ) → List Row → State → Bool
are_flawless nexts [] s = true
are_flawless nexts (x ∷ xs) s = is_none (flaw_in nexts x s) && are_flawless nexts xs (with_row x s)

-- Whether rows are the same.
abbrev pub same_rows : ByteRows → ByteRows → Bool
same_rows [] [] = true
same_rows (x ∷ xs) (y ∷ ys) = (bytes_eq x.0 y.0 && bytes_eq x.1 y.1) && same_rows xs ys
same_rows _ _ = false

-- The state that rows of a format build, if each can come after those before it, and the rows of this state are the same again, counted grants
-- among them.
abbrev pub judged_rows : Format → ByteRows → List Row → Option State
judged_rows f rows xs = cond (are_flawless (next_in xs) xs start && same_rows rows (spelled_rows (rows_of f (state_in xs)))) (Some (state_in xs)) None

-- The valid state of which bytes are all rows in a format, if there is one.
abbrev pub judged : Format → ByteRows → Option State
judged f rows = option_and_then (λ xs. judged_rows f rows xs) (rows_read f rows)

-- What is judged is exact: a state that is found is valid and has these rows, and the rows of a valid state are found to be its own.
pub record JudgesExactly : Type 0 where
  pub sound : (f : Format) (rows : ByteRows) (s : State) → judged f rows ≡ Some s → ValidState s × HasRows f s × (rows ≡ spelled_rows (rows_of f s))
  pub complete : (f : Format) (s : State) → ValidState s → HasRows f s → judged f (spelled_rows (rows_of f s)) ≡ Some s
