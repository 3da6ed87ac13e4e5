-- What a folder keeps where a reply was not taken whole (docs/PROMISES.md, "The headline").
use Rattle.std.specs.Prelude.{List}
use Rattle.ziti_outside.specs.Images.{Image}
use Rattle.row_store.specs.declared.bounds.StoreBounds.{StoreBounds}
use Rattle.ctrl_keep.specs.KeptMachine.{Machine}
use Rattle.session_mux.specs.declared.events.Event.{Event}
use Rattle.session_mux.specs.declared.sessions.Form.{Form}
use Rattle.serve_loop.specs.UnsaidReplies as loop
use Rattle.ctrl_serve.specs.FrameAnswer.{controller}
use Rattle.ctrl_serve.specs.OpenedFolders.{Keeps}
use Rattle.ctrl_serve.specs.RunStops.{AllOpenTo}

-- A machine went one frame further than the answered events: it is the one behind the frame that arrives by the next event.
abbrev pub IsOneAhead : Form → StoreBounds → Machine → (answered unanswered : List Event) (ahead : Machine) → Type 0
IsOneAhead form bounds m answered unanswered ahead = loop.IsOneAhead form (controller bounds) m answered unanswered ahead

-- A folder keeps such a machine, and all that a stop may leave opens to its state.
pub record KeepsOneAhead (form : Form) (bounds : StoreBounds) (m : Machine) (answered unanswered : List Event) (reads : Image) (images : Image → Type 0) : Type 0 where
  pub machine : Machine
  pub ahead : IsOneAhead form bounds m answered unanswered machine
  pub keeps : Keeps reads machine
  pub found : AllOpenTo images machine.state
