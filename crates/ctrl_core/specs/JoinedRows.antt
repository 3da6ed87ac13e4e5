-- When a record may join a state, and that stores keep a state (docs/PROMISES.md, "The core"). Only private functions and proofs of
-- this crate cite this file.
use Rattle.std.specs.Prelude.{◌≡◌, ℕ, ◌≤◌, None}
use Rattle.ctrl_model.specs.declared.kinds.Kind.{Kind}
use Rattle.ctrl_model.specs.Limits.{last_next}
use Rattle.ctrl_model.specs.State.{State}
use Rattle.ctrl_model.specs.Tables.{Record, table}
use Rattle.ctrl_model.specs.ValidState.{ValidState}
use Rattle.state_building.specs.JoinedRecords.{flaw_of, skipped}
use Rattle.core_stores.specs.declared.changes.Change.{Change}
use Rattle.core_stores.specs.declared.stores.Stores.{Stores}
use Rattle.ctrl_core.specs.Changes.{CanChange, after_change}
use Rattle.ctrl_core.specs.KeptState.{Keeps}
use Rattle.core_stores.specs.StoredState.{state_of}

-- A record of a kind may join a state under its number: it has no flaw, whatever the next number of its kind will be.
pub record MayJoin (k : Kind) (n : ℕ) (r : Record k) (s : State) : Type 0 where
  pub end : ℕ
  pub last : end ≤ last_next
  pub flawless : flaw_of (λ j. end) k n r s ≡ None

-- A change that adds a record of a kind can be made under a number: the number is not below the next one of the kind, and once that
-- one is raised to it, the change can be made and leads to a valid state.
pub record CanJoin (k : Kind) (n : ℕ) (c : Change) (s : State) : Type 0 where
  pub later : (table k s).next ≤ n
  pub can : CanChange c (skipped k n s)
  pub valid : ValidState (after_change c (skipped k n s))

-- The stores keep a state.
pub record KeepState (st : Stores) (s : State) : Type 0 where
  pub kept : Keeps st
  pub state_is : state_of st ≡ s
