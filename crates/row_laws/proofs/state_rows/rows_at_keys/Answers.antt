use Rattle.row_laws.proofs.RowsAtKeys.{value_at-rows_of}
use Rattle.row_laws.proofs.state_rows.rows_at_keys.Goals as goal

pub returns : goal.returns
returns c = value_at-rows_of
