-- What a stop within a run of the controller over an input finds: a folder, and the reply bytes that were taken (docs/PROMISES.md, "The headline").
use Rattle.std.specs.Prelude.{ℕ, List}
use Rattle.std.specs.declared.option.Option.{Option}
use Rattle.ziti_outside.specs.Images.{Image}
use Rattle.ctrl_model.specs.State.{State}
use Rattle.row_store.specs.declared.bounds.StoreBounds.{StoreBounds}
use Rattle.row_store.specs.OpenedStates.{OpensToState}
use Rattle.ctrl_keep.specs.KeptMachine.{Machine}
use Rattle.session_mux.specs.declared.events.Event.{Event}
use Rattle.session_mux.specs.declared.sessions.Form.{Form}
use Rattle.serve_loop.specs.RunStops as loop
use Rattle.ctrl_serve.specs.FrameAnswer.{controller}

-- All of these images open to a state.
abbrev pub AllOpenTo : (Image → Type 0) → State → Type 0
AllOpenTo images s = (image : Image) → images image → OpensToState image s

-- The state behind the frames that arrive by some events.
abbrev pub state_behind : Form → StoreBounds → Machine → List Event → State
state_behind form bounds m events = (loop.machine_by form (controller bounds) m events).state

-- A stop between two frames: the replies to the answered events were taken, each whole, and the folder opens to the state behind them.
abbrev pub IsBetween : Form → StoreBounds → Machine → (said : Option (List ℕ)) → Image → (taken : List ℕ) → (answered : List Event) → Type 0
IsBetween form bounds m said image taken answered = loop.IsBetween form (controller bounds) m said image taken answered

-- A stop within the turn of the next frame: beside the replies to the answered events a front of the reply to it was taken, and the folder
-- opens to the state behind it, or, where no byte of that reply was taken, to the state before it.
abbrev pub IsWithin : Form → StoreBounds → Machine → (said : Option (List ℕ)) → Image → (taken : List ℕ) → (answered unanswered : List Event) → Type 0
IsWithin form bounds m said image taken answered unanswered = loop.IsWithin form (controller bounds) m said image taken answered unanswered

-- What a stop within a run along some events finds: it fell between two frames, or within the turn of one.
abbrev pub StopFinds : Form → StoreBounds → Machine → (events : List Event) → (said : Option (List ℕ)) → Image → (taken : List ℕ) → Type 0
StopFinds form bounds m events said image taken = loop.StopFinds form (controller bounds) m events said image taken

-- A folder holds the first frames of an input, so many at least: it opens to the state behind some number of them. Of the reply bytes all
-- those of the frames but the last were taken, so it is one frame ahead of them at most.
abbrev pub HoldsFirst : Form → StoreBounds → Machine → (used : List ℕ) → ℕ → Image → (taken : List ℕ) → Type 0
HoldsFirst form bounds m used n image taken = loop.HoldsFirst form (controller bounds) m used n image taken
