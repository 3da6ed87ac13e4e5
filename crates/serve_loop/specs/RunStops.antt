-- What a stop within a run over an input finds: a folder, and the reply bytes that were taken (docs/PROMISES.md, "The headline").
use Rattle.std.specs.Prelude.{◌≡◌, ◌⊎◌, ℕ, ◌-◌, ◌≤◌, List, [], ◌∷◌, ◌++◌, length, take, Some}
use Rattle.std.specs.declared.option.Option.{Option}
use Rattle.ziti_outside.specs.Images.{Image}
use Rattle.ziti_outside.specs.Told.{Took, IsFront}
use Rattle.channel_frame.specs.declared.frames.Frame.{Frame}
use Rattle.serve_loop.specs.Answerers.{Answerer}
use Rattle.session_mux.specs.declared.events.Event.{Event}
use Rattle.session_mux.specs.declared.events.Event.TheVariants.{Arrived}
use Rattle.session_mux.specs.declared.sessions.Form.{Form}
use Rattle.session_mux.specs.Completion.{completed}
use Rattle.run_notes.specs.Inputs.{frames_in}
use Rattle.serve_loop.specs.AnsweredFrames.{machine_behind, replies_to, each_reply}
use Rattle.serve_loop.specs.SaidReplies.{joined}

-- The machine behind the frames that arrive by some events.
abbrev pub machine_by : {M : Type 0} → Form → Answerer M → M → List Event → M
machine_by form answerer m events = machine_behind answerer m (frames_in form events)

-- A stop between two frames: the replies to the answered events were taken, each whole, and the folder opens to the machine behind them.
pub record IsBetween {M : Type 0} (form : Form) (answerer : Answerer M) (m : M) (said : Option (List ℕ)) (image : Image) (taken : List ℕ) (answered : List Event) : Type 0 where
  pub replies : Took said (Some taken) (joined (replies_to form answerer m answered))
  pub found : answerer.opens image (machine_by form answerer m answered)

-- A stop within the turn of the next frame: beside the replies to the answered events a front of the reply to it was taken, and the folder
-- opens to the machine behind it, or, where no byte of that reply was taken, to the one before it.
pub record IsWithin {M : Type 0} (form : Form) (answerer : Answerer M) (m : M) (said : Option (List ℕ)) (image : Image) (taken : List ℕ) (answered unanswered : List Event) : Type 0 where
  pub session : ℕ
  pub frame : Frame
  pub later : List Event
  pub first : unanswered ≡ Arrived session frame ∷ later
  pub reply : List ℕ
  pub is_reply : replies_to form answerer m (answered ++ Arrived session frame ∷ []) ≡ replies_to form answerer m answered ++ reply ∷ []
  pub front : List ℕ
  pub is_front : IsFront front reply
  pub replies : Took said (Some taken) (joined (replies_to form answerer m answered) ++ front)
  pub found : answerer.opens image (machine_by form answerer m (answered ++ Arrived session frame ∷ [])) ⊎ ((front ≡ []) × answerer.opens image (machine_by form answerer m answered))

-- What a stop within a run along some events finds: it fell between two frames, or within the turn of one.
pub record StopFinds {M : Type 0} (form : Form) (answerer : Answerer M) (m : M) (events : List Event) (said : Option (List ℕ)) (image : Image) (taken : List ℕ) : Type 0 where
  pub answered : List Event
  pub unanswered : List Event
  pub split : answered ++ unanswered ≡ events
  pub finds : IsBetween form answerer m said image taken answered ⊎ IsWithin form answerer m said image taken answered unanswered

-- A folder holds the first frames of an input, so many at least: it opens to the machine behind some number of them. Of the reply bytes all
-- those of the frames but the last were taken, so it is one frame ahead of them at most.
pub record HoldsFirst {M : Type 0} (form : Form) (answerer : Answerer M) (m : M) (used : List ℕ) (n : ℕ) (image : Image) (taken : List ℕ) : Type 0 where
  pub count : ℕ
  pub at_least : n ≤ count
  pub at_most : count ≤ length (completed form used)
  pub one_ahead : IsFront (joined (take (count - 1) (each_reply form answerer m used))) taken
  pub opens : answerer.opens image (machine_behind answerer m (take count (completed form used)))
