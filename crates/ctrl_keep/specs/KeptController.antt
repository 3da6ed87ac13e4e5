-- What a kept controller has, and what its folder opens to (docs/PROMISES.md, "The kept controller").
use Rattle.std.specs.Prelude.{Bool, true, false, ◌≡◌, Some}
use Rattle.ctrl_model.specs.State.{State}
use Rattle.ctrl_model.specs.ValidState.{ValidState}
use Rattle.ctrl_model.specs.declared.replies.Reply.{Reply}
use Rattle.ctrl_core.specs.KeptFormat.{kept_format}
use Rattle.ctrl_core.specs.declared.plans.Planned.{Planned}
use Rattle.ctrl_core.specs.Changes.{CanLead, led}
use Rattle.ctrl_model.specs.Controller.{counted}
use Rattle.ctrl_core.specs.KeptState.{Cored}
use Rattle.row_store.specs.StoredRows.{Stored}
use Rattle.row_store.specs.OpenedStates.{byte_rows_of}
use Rattle.ctrl_keep.specs.KeptMachine.{Place, Machine, kept}

-- A kept controller: its state, its store, and whether it is spent.
pub record Controlled : Type 0 where
  pub state : State
  pub stored : Stored
  pub spent : Bool

-- Where the journal of a store goes on.
abbrev pub place_of : Stored → Place
place_of stored = record { end = stored.end; mark = stored.mark }

-- The machine of a state and the store that keeps it.
abbrev pub machine_with : State → Stored → Machine
machine_with s stored = record { state = s; place = Some (place_of stored) }

-- What the machine makes of a plan in a state that a store keeps.
abbrev pub made_of : Planned → State → Stored → Reply × Machine
made_of p s stored = kept stored.bounds.slot p.reply s p.batch (counted s (led p s)) (place_of stored)

-- The machine that a kept controller is.
abbrev pub machine_of : Controlled → Machine
machine_of k = machine_with k.state k.stored

-- A store keeps the state of a core: the core is live, its state is valid, the store may be changed, and in the kept format it has the rows
-- of the state.
pub record Keeps (core : Cored) (stored : Stored) : Type 0 where
  pub live : core.live ≡ true
  pub valid : ValidState core.state
  pub opened : stored.opened ≡ true
  pub unspent : stored.spent ≡ false
  pub format : stored.format ≡ kept_format
  pub rows : stored.rows ≡ byte_rows_of kept_format core.state

-- A plan was made in a state that a store keeps: it can lead from there.
pub record IsPlanned (p : Planned) (core : Cored) (stored : Stored) : Type 0 where
  pub keeps : Keeps core stored
  pub leads : CanLead p core.state

-- The store has, in the kept format, exactly the rows of the state, counted grants among them, and the state is valid.
pub record HoldsRows (k : Controlled) : Type 0 where
  pub format : k.stored.format ≡ kept_format
  pub rows : k.stored.rows ≡ byte_rows_of kept_format k.state
  pub valid : ValidState k.state
