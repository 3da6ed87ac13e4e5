-- What a change of stores leaves (docs/PROMISES.md, "The stores of a core").
use Rattle.std.specs.Prelude.{◌≡◌}
use Rattle.ctrl_model.specs.State.{State}
use Rattle.core_stores.specs.declared.stores.Stores.{Stores}
use Rattle.core_stores.specs.StoredState.{HoldsPolicies, state_of}

-- The stores stand for a state, the attributes of its policies are in use, and the counts are as they were.
pub record Carries (old new : Stores) (t : State) : Type 0 where
  pub next : state_of new ≡ t
  pub held : HoldsPolicies new
  pub counts : new.grants ≡ old.grants
