-- Rows that are counts of a relation.
use Rattle.std.specs.Prelude.{Bool, false}
use Rattle.ctrl_model.specs.declared.kinds.Relation.{Relation}
use Rattle.ctrl_model.specs.Grants.{same_relation}
use Rattle.row_codec.specs.declared.rows.Row.{Row}
use Rattle.state_building.specs.RowForms.{by_row}

-- Whether a row is a count of a relation.
abbrev pub is_count_of : Relation → Row → Bool
is_count_of r x = by_row (record {
  next = λ k n. false;
  setting = λ cost. false;
  one = λ k n q. false;
  count = λ q a b c. same_relation r q;
  intercept = λ n i. false;
  serial = λ n. false;
}) x
