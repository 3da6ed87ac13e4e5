use Rattle.row_store.proofs.OneStates.{one_state, stateless_opens, one_place}
use Rattle.row_store.proofs.laws.one_state.Goals as goal

pub returns-clause-state : goal.returns-clause-state
returns-clause-state c = one_state

pub returns-clause-none : goal.returns-clause-none
returns-clause-none c = stateless_opens

pub returns-clause-place : goal.returns-clause-place
returns-clause-place c = one_place
