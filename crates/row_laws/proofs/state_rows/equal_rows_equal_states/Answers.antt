use Rattle.row_laws.proofs.SameStates.{same_from_rows, same_from_spelled, same_from_keys}
use Rattle.row_laws.proofs.state_rows.equal_rows_equal_states.Goals as goal

pub returns-clause-rows : goal.returns-clause-rows
returns-clause-rows c = same_from_rows

pub returns-clause-spelled : goal.returns-clause-spelled
returns-clause-spelled c = same_from_spelled

pub returns-clause-keys : goal.returns-clause-keys
returns-clause-keys c = same_from_keys
