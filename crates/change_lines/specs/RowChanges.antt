-- The things that rows are, and the changes between rows. Only private contracts cite these, but for the first.
use Rattle.std.specs.Prelude.{ℕ, ◌==◌, List, [], ◌++◌, map, find, codes}
use Rattle.std.specs.Option.{option_map_or}
use Rattle.ctrl_model.specs.declared.formats.Format.{Format}
use Rattle.ctrl_model.specs.declared.formats.Format.TheVariants.{Two}
use Rattle.ctrl_model.specs.State.{State, start}
use Rattle.ctrl_model.specs.ValidState.{ValidState}
use Rattle.row_codec.specs.declared.rows.Row.{Row}
use Rattle.row_codec.specs.Batches.{batch_between}
use Rattle.row_codec.specs.RowForm.{key_of, value_of}
use Rattle.row_codec.specs.RowKeys.{kind_number, kinds}
use Rattle.row_codec.specs.StateRows.{HasRows}
use Rattle.row_loading.specs.LoadedRows.{Loads}
use Rattle.state_building.specs.RowForms.{by_row}
use Rattle.record_lines.specs.RowTexts.{row_line}
use Rattle.change_lines.specs.SideBySide.{side_by_side}
use Rattle.change_lines.specs.ChangeLines.{Thing, Things, grant_word, kind_word, number_line, pair_line, said, worded}

-- Rows are all those of a valid state, as they were read of a format.
pub record AreRowsOf (format : Format) (s : State) (rows : List Row) : Type 0 where
  pub valid : ValidState s
  pub has : HasRows format s
  pub loads : Loads format (batch_between format start s) rows

-- The word of the kind of a number.
abbrev pub numbered_word : ℕ → List ℕ
numbered_word n = option_map_or kind_word (find (λ k. kind_number k == n) kinds) []

-- The word before the line of a row.
abbrev pub row_word : Row → List ℕ
row_word x = by_row (record {
  next = λ k n. codes "next";
  setting = λ cost. codes "least-router-cost";
  one = λ k n r. kind_word k;
  count = λ r a b c. grant_word r;
  intercept = λ n i. codes "intercepts";
  serial = λ n. codes "serial";
}) x

-- The line of a row that is neither a record nor an intercept; nothing of these.
abbrev pub rest_line : State → Row → List ℕ
rest_line s x = by_row (record {
  next = λ k n. worded (numbered_word k) (number_line n);
  setting = λ cost. number_line cost;
  one = λ k n r. [];
  count = λ r a b c. pair_line r s a b c;
  intercept = λ n i. [];
  serial = λ n. number_line n;
}) x

-- The line of a row behind its word.
abbrev pub row_text : State → Row → List ℕ
row_text s x = worded (row_word x) (row_line s x ++ rest_line s x)

-- What a row is.
abbrev pub row_thing : State → Row → Thing
row_thing s x = record { value = value_of Two x; line = row_text s x }

-- What rows are, under their keys.
abbrev pub row_things : State → List Row → Things
row_things s rows = map (λ x. (key_of x, row_thing s x)) rows

-- The lines of the changes between rows of two states.
abbrev pub between : (s t : State) → (xs ys : List Row) → List ℕ
between s t xs ys = side_by_side said (row_things s xs) (row_things t ys)
