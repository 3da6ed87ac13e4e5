-- What a core keeps of its stores (docs/PROMISES.md, "The core").
use Rattle.std.specs.Prelude.{◌≡◌, Bool, true}
use Rattle.ctrl_model.specs.declared.kinds.Relation.{Relation}
use Rattle.ctrl_model.specs.State.{State}
use Rattle.ctrl_model.specs.Grants.{count}
use Rattle.ctrl_model.specs.Settling.{revoke}
use Rattle.ctrl_model.specs.ValidState.{ValidState}
use Rattle.grant_denorm.specs.MovedCounts.{AreCountsOf}
use Rattle.core_stores.specs.OpenCircuits.{CountsOpen}
use Rattle.core_stores.specs.declared.stores.Stores.{Stores}
use Rattle.core_stores.specs.StoredState.{HoldsPolicies, counts_of, state_of}

-- What a core keeps of its stores: their state is valid, the attributes of policies are in use beside those of entities, the counts are
-- the grant counts of the state for every pair, and the load of each terminator is counted.
pub record Keeps (st : Stores) : Type 0 where
  pub valid : ValidState (state_of st)
  pub held : HoldsPolicies st
  pub loads : CountsOpen st
  pub counts : (r : Relation) → AreCountsOf (count r (state_of st)) (counts_of r st.grants)

-- What contracts see of a core: its state, and whether it was not given up for want of memory.
pub record Cored : Type 0 where
  pub state : State
  pub live : Bool

-- Where it is told that what granted each circuit stands, nothing is revoked.
abbrev pub IsGranted : Bool → State → Type 0
IsGranted granted s = granted ≡ true → revoke s ≡ s
