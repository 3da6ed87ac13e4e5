-- The value of a row, where it is one of some tables (docs/FORMATS.md, "Rows").
use Rattle.std.specs.Prelude.{ℕ, nat_le, nat_lt, if◌then◌else◌, ◌&&◌, List, []}
use Rattle.ctrl_model.specs.declared.formats.Format.TheVariants.{Two}
use Rattle.row_codec.specs.declared.rows.Row.{Row}
use Rattle.row_codec.specs.RowForm.{key_of, value_of}

-- The value of a row of the tables from the first number up to the second, without that, and nothing of another row. These are tables of
-- records, whose values are the same in either format.
abbrev pub value_between : ℕ → ℕ → Row → List ℕ
value_between first past r = if nat_le first (key_of r).0 && nat_lt (key_of r).0 past then value_of Two r else []
