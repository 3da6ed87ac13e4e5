-- The machine where a reply was not taken whole (docs/PROMISES.md, "The headline").
use Rattle.std.specs.Prelude.{◌≡◌, ℕ, List, [], ◌∷◌, ◌++◌}
use Rattle.channel_frame.specs.declared.frames.Frame.{Frame}
use Rattle.serve_loop.specs.Answerers.{Answerer}
use Rattle.session_mux.specs.declared.events.Event.{Event}
use Rattle.session_mux.specs.declared.events.Event.TheVariants.{Arrived}
use Rattle.session_mux.specs.declared.sessions.Form.{Form}
use Rattle.run_notes.specs.Inputs.{frames_in}
use Rattle.serve_loop.specs.AnsweredFrames.{machine_behind}

-- A machine went one frame further than the answered events: it is the one behind the frame that arrives by the next event.
pub record IsOneAhead {M : Type 0} (form : Form) (answerer : Answerer M) (m : M) (answered unanswered : List Event) (ahead : M) : Type 0 where
  pub session : ℕ
  pub frame : Frame
  pub later : List Event
  pub first : unanswered ≡ Arrived session frame ∷ later
  pub behind : ahead ≡ machine_behind answerer m (frames_in form (answered ++ Arrived session frame ∷ []))
