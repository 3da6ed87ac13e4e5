-- What rows say of the lines of a picture. Only private contracts cite these.
use Rattle.std.specs.Prelude.{ℕ, cond, List, [], decimal}
use Rattle.std.specs.List.{flat_map}
use Rattle.std.specs.Str.{bytes_eq}
use Rattle.ctrl_model.specs.declared.kinds.Kind.{Kind}
use Rattle.ctrl_model.specs.declared.kinds.Kind.TheVariants as kind
use Rattle.ctrl_model.specs.State.{State}
use Rattle.ctrl_model.specs.Tables.{Record}
use Rattle.row_codec.specs.declared.rows.Row.{Row}
use Rattle.row_codec.specs.declared.rows.Row.TheVariants as row
use Rattle.state_building.specs.RowForms.{by_row}
use Rattle.record_lines.specs.declared.listing.Listed.TheVariants as listed
use Rattle.record_lines.specs.RowTexts.{is_of}
use Rattle.network_picture.specs.Pictures.{Marks, circuit_picture, drawn}

-- The line of the record that a row is.
abbrev pub row_drawn : Marks → Row → List ℕ
row_drawn m x = by_row (record {
  next = λ k n. [];
  setting = λ cost. [];
  one = λ k n r. drawn m k (n, r);
  count = λ r a b c. [];
  intercept = λ n i. [];
  serial = λ n. [];
}) x

-- That of a row that is a record of a kind.
abbrev pub drawn_where : Marks → Kind → Row → List ℕ
drawn_where m k x = cond (is_of (listed.Records k) x) (row_drawn m x) []

-- The picture that a record asks for: a circuit whose number a word is.
abbrev pub asked_of_record : List ℕ → State → (k : Kind) → ℕ × Record k → List ℕ
asked_of_record word s kind.Circuit x = cond (bytes_eq (decimal x.0) word) (circuit_picture s x) []
asked_of_record word s k x = []

-- The picture that a row asks for.
abbrev pub row_asked : List ℕ → State → Row → List ℕ
row_asked word s x = by_row (record {
  next = λ k n. [];
  setting = λ cost. [];
  one = λ k n r. asked_of_record word s k (n, r);
  count = λ r a b c. [];
  intercept = λ n i. [];
  serial = λ n. [];
}) x
