-- Rows whose record is valid as far as that can be told of it alone (docs/RULES.md, "Valid states").
use Rattle.std.specs.Prelude.{Bool, true}
use Rattle.row_codec.specs.declared.rows.Row.{Row}
use Rattle.state_building.specs.RowForms.{by_row}
use Rattle.state_building.specs.JoinedRecords.{is_sound}

-- Whether a row's record is sound. Other rows have none.
abbrev pub is_sound_row : Row → Bool
is_sound_row x = by_row (record {
  next = λ k n. true;
  setting = λ cost. true;
  one = λ k n r. is_sound k r;
  count = λ r a b c. true;
  intercept = λ n i. true;
  serial = λ n. true;
}) x
