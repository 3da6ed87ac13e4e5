use Rattle.row_loading.proofs.RefusedStates.{refused-of_none}
use Rattle.row_loading.proofs.laws.refused_rows_are_of_no_state.Goals as goal

pub returns : goal.returns
returns c = refused-of_none
