use Rattle.row_loading.proofs.ListedStates.{listed}
use Rattle.row_loading.proofs.LoadedStates.{loads-listed, flawless-rows, counted-rows, same-state}
use Rattle.row_loading.proofs.laws.rows_of_valid_states_load.Goals as goal

pub returns-clause-loads : goal.returns-clause-loads
returns-clause-loads c = λ f ops s v has e. (listed f s, loads-listed f ops s v e)

pub returns-clause-flawless : goal.returns-clause-flawless
returns-clause-flawless c = flawless-rows

pub returns-clause-counts : goal.returns-clause-counts
returns-clause-counts c = counted-rows

pub returns-clause-state : goal.returns-clause-state
returns-clause-state c = same-state
