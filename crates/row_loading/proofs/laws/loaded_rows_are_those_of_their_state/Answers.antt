use Rattle.row_loading.proofs.SoundRows.{ops_are, valid_in, has_rows-in}
use Rattle.row_loading.proofs.laws.loaded_rows_are_those_of_their_state.Goals as goal

pub returns-clause-rows : goal.returns-clause-rows
returns-clause-rows c = ops_are

pub returns-clause-valid : goal.returns-clause-valid
returns-clause-valid c = valid_in

pub returns-clause-has_rows : goal.returns-clause-has_rows
returns-clause-has_rows c = has_rows-in
