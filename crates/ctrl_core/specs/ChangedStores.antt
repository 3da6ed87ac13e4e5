-- When what a change leads to can be told of some stores. Only private functions and proofs of this crate cite this file.
use Rattle.ctrl_model.specs.declared.kinds.Kind.{Kind}
use Rattle.ctrl_model.specs.Settling.{settle}
use Rattle.ctrl_model.specs.State.{State}
use Rattle.ctrl_model.specs.Tables.{table}
use Rattle.ctrl_model.specs.ValidState.{ValidState}
use Rattle.row_codec.specs.declared.changes.Change as row
use Rattle.row_writing.specs.RecordChanges.{next_change_of}
use Rattle.core_stores.specs.declared.changes.Change.{Change}
use Rattle.core_stores.specs.declared.settled.Settled.{Settled}
use Rattle.core_stores.specs.declared.stores.Stores.{Stores}
use Rattle.ctrl_core.specs.Changes.{CanChange, after_change}
use Rattle.core_stores.specs.StoredState.{HoldsPolicies}
use Rattle.core_stores.specs.StoredState.{state_of}
use Rattle.ctrl_core.specs.SettledRecords.{AreSettled}

-- The state after a change of some stores, settled.
abbrev pub next_state : Stores → Change → State
next_state st c = settle (after_change c (state_of st))

-- The state is valid and the uses of its policies are held; the change can be made, and once the state is settled it is valid.
pub record CanSettle (st : Stores) (c : Change) : Type 0 where
  pub before : ValidState (state_of st)
  pub held : HoldsPolicies st
  pub can : CanChange c (state_of st)
  pub valid : ValidState (next_state st c)

-- What settles after the change is known.
pub record KnowsSettled (st : Stores) (c : Change) (g : Settled) : Type 0 where
  pub can : CanSettle st c
  pub settled : AreSettled (after_change c (state_of st)) g

-- The change of the row of a kind's next number between two states.
abbrev pub next_change_in : State → State → Kind → row.Change
next_change_in s t k = next_change_of k (table k s).next (table k t).next
