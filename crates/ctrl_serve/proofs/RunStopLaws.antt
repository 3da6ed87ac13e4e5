-- What a stop within a run on the folder finds: how the opening of the folder, and the run behind it, make it up.
use Rattle.std.proofs.Common.{◌⊎◌, inl, inr, ℕ, List, [], refl, subst}
use Rattle.std.specs.declared.option.Option.{Option}
use Rattle.ziti_outside.specs.Told.{AreTaken}
use Rattle.ziti_outside.specs.Images.{Image, After}
use Rattle.ziti_outside.specs.Moments.{Now, Elapses, Leaves}
use Rattle.ziti_outside.proofs.Moves.{Took-taken}
use Rattle.ziti_outside.proofs.MomentLaws.{Elapses-then}
use Rattle.ziti_outside.specs.Views.{Seen, Stopped}
use Rattle.ctrl_model.specs.State.{State}
use Rattle.slot_files.specs.FolderImage.{StandsAsBefore}
use Rattle.row_store.specs.declared.bounds.StoreBounds.{StoreBounds}
use Rattle.row_store.specs.OpenedStates.{OpensToState}
use Rattle.row_store.proofs.OneStates.{still_opens}
use Rattle.ctrl_keep.specs.KeptMachine.{Machine}
use Rattle.session_mux.specs.declared.events.Event.{Event}
use Rattle.session_mux.specs.declared.sessions.Form.{Form}
use Rattle.serve_loop.specs.Answerers.{Answerer}
use Rattle.serve_loop.specs.RunStops as loop
use Rattle.ctrl_serve.specs.FrameAnswer.{controller}
use Rattle.ctrl_serve.specs.RunStops.{AllOpenTo, StopFinds}
use Rattle.ctrl_core.specs.KeptFormat.{kept_format}

-- With no frame answered, a stop finds the folder at the start, and no byte taken, whoever answers.
start_found : {M : Type 0} (form : Form) (answerer : Answerer M) (m : M) (events : List Event) (said : Option (List ℕ)) (images : Image → Type 0) (image : Image) (taken : List ℕ)
    → ((i : Image) → images i → answerer.opens i m) → Now images said image taken → loop.StopFinds form answerer m events said image taken
start_found form answerer m events said images image taken opens now = record {
  answered = [];
  unanswered = events;
  split = refl;
  finds = inl (record { replies = Took-taken said taken now.replies; found = opens image now.found });
}

-- What a stop within the opening may leave of a folder of this state: an image that stands for what one of the start stood for, or one that opens to
-- the state.
abbrev pub Opening : (Image → Type 0) → State → Image → Type 0
Opening images s image = After (StandsAsBefore kept_format) images image ⊎ OpensToState image s

-- So all of them open to their state, where those of the start do.
all_stand : (images : Image → Type 0) (s : State) → AllOpenTo images s → AllOpenTo (Opening images s) s
all_stand images s opens image (inl after) = still_opens kept_format after.from image s after.by (opens after.from after.was)
all_stand images s opens image (inr found) = found

-- A stop within the opening or within the run behind it, where all that a stop might have left before opens to the state, and so to the machine.
pub stops_behind : {D M : Type 0} {seen : D → Seen} {stopped : D → Stopped} {desk mid now : D}
    (form : Form) (answerer : Answerer M) (m : M) (s : State) (events : List Event) → ((i : Image) → OpensToState i s → answerer.opens i m)
    → Leaves seen stopped desk mid (Opening (stopped desk).images s)
    → Elapses (stopped mid) (stopped now) (loop.StopFinds form answerer m events (seen mid).said) → AllOpenTo (stopped desk).images s
    → Elapses (stopped desk) (stopped now) (loop.StopFinds form answerer m events (seen desk).said)
stops_behind {seen = seen} {stopped = stopped} {desk = desk} form answerer m s events to opening serving opens =
    Elapses-then (loop.StopFinds form answerer m events (seen desk).said) opening.time serving
    (λ image taken found. start_found form answerer m events (seen desk).said (Opening (stopped desk).images s) image taken (λ i p. to i (all_stand (stopped desk).images s opens i p)) found)
    (λ image taken found. subst (λ (x : Option (List ℕ)). loop.StopFinds form answerer m events x image taken) opening.quiet found)

-- What a migration left is found with no frame answered.
opening_found : {M : Type 0} (form : Form) (answerer : Answerer M) (m : M) (s : State) (events : List Event) (said : Option (List ℕ)) (images : Image → Type 0) (image : Image) (taken : List ℕ)
    → ((i : Image) → OpensToState i s → answerer.opens i m) → AreTaken said taken → Opening images s image
    → loop.StopFinds form answerer m events said image taken ⊎ Now (After (StandsAsBefore kept_format) images) said image taken
opening_found form answerer m s events said images image taken to replies (inl after) = inr (record { found = after; replies = replies })
opening_found form answerer m s events said images image taken to replies (inr opens) =
    inl (start_found form answerer m events said (λ i. OpensToState i s) image taken to (record { found = opens; replies = replies }))

-- And whatever it might have left before.
pub stops_later_behind : {D M : Type 0} {seen : D → Seen} {stopped : D → Stopped} {desk mid now : D}
    (form : Form) (answerer : Answerer M) (m : M) (s : State) (events : List Event) → ((i : Image) → OpensToState i s → answerer.opens i m)
    → Leaves seen stopped desk mid (Opening (stopped desk).images s) → Elapses (stopped mid) (stopped now) (loop.StopFinds form answerer m events (seen mid).said)
    → Elapses (stopped desk) (stopped now) (λ image taken. loop.StopFinds form answerer m events (seen desk).said image taken ⊎ Now (After (StandsAsBefore kept_format) (stopped desk).images) (seen desk).said image taken)
stops_later_behind {seen = seen} {stopped = stopped} {desk = desk} form answerer m s events to opening serving =
    Elapses-then (λ image taken. loop.StopFinds form answerer m events (seen desk).said image taken ⊎ Now (After (StandsAsBefore kept_format) (stopped desk).images) (seen desk).said image taken) opening.time serving
    (λ image taken found. opening_found form answerer m s events (seen desk).said (stopped desk).images image taken to found.replies found.found)
    (λ image taken found. inl (subst (λ (x : Option (List ℕ)). loop.StopFinds form answerer m events x image taken) opening.quiet found))

-- The same of the controller.
pub opened_stops : {D : Type 0} {seen : D → Seen} {stopped : D → Stopped} {desk mid now : D}
    (form : Form) (bounds : StoreBounds) (m : Machine) (events : List Event) → Leaves seen stopped desk mid (Opening (stopped desk).images m.state)
    → Elapses (stopped mid) (stopped now) (StopFinds form bounds m events (seen mid).said) → AllOpenTo (stopped desk).images m.state
    → Elapses (stopped desk) (stopped now) (StopFinds form bounds m events (seen desk).said)
opened_stops form bounds m events opening serving opens = stops_behind form (controller bounds) m m.state events (λ i p. p) opening serving opens

pub later_stops : {D : Type 0} {seen : D → Seen} {stopped : D → Stopped} {desk mid now : D}
    (form : Form) (bounds : StoreBounds) (m : Machine) (events : List Event) → Leaves seen stopped desk mid (Opening (stopped desk).images m.state)
    → Elapses (stopped mid) (stopped now) (StopFinds form bounds m events (seen mid).said)
    → Elapses (stopped desk) (stopped now) (λ image taken. StopFinds form bounds m events (seen desk).said image taken ⊎ Now (After (StandsAsBefore kept_format) (stopped desk).images) (seen desk).said image taken)
later_stops form bounds m events opening serving = stops_later_behind form (controller bounds) m m.state events (λ i p. p) opening serving
