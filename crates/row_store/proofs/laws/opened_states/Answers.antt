use Rattle.std.proofs.Common.{inr, refl}
use Rattle.row_store.proofs.StateRows.{store_without_state, no_state_by}
use Rattle.row_store.proofs.OneStates.{still_opens}
use Rattle.row_store.proofs.laws.opened_states.Goals as goal

pub returns-clause-looked_at : goal.returns-clause-looked_at
returns-clause-looked_at c image stored part at here none = inr (store_without_state image stored part at here none.0 none.1 none.2)

pub returns-clause-opened : goal.returns-clause-opened
returns-clause-opened c f old new stored part at opens rows here none = inr (no_state_by f _ old new stored part at refl opens rows here none.0 none.1 none.2)

pub returns-clause-still : goal.returns-clause-still
returns-clause-still c = still_opens
