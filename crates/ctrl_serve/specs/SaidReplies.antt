-- What was said of some replies, and of the controller's to the events of an input (docs/PROMISES.md, "The headline").
use Rattle.std.specs.Prelude.{ℕ, List}
use Rattle.row_store.specs.declared.bounds.StoreBounds.{StoreBounds}
use Rattle.ctrl_keep.specs.KeptMachine.{Machine}
use Rattle.session_mux.specs.declared.events.Event.{Event}
use Rattle.session_mux.specs.declared.sessions.Form.{Form}
use Rattle.run_notes.specs.declared.status.Status.{Status}
use Rattle.serve_loop.specs.SaidReplies as loop
pub use Rattle.serve_loop.specs.SaidReplies.{joined, AreWhole, AreCut}
use Rattle.ctrl_serve.specs.FrameAnswer.{controller}

-- What was said once these events were answered: their replies.
abbrev pub SaysAll : Form → StoreBounds → Machine → (said : List ℕ) → (answered : List Event) → Type 0
SaysAll form bounds m said answered = loop.SaysAll form (controller bounds) m said answered

-- What was said where the next reply was not taken whole: the replies to the answered events, and a front of the reply to the frame
-- that arrives by the next event.
abbrev pub SaysFront : Form → StoreBounds → Machine → (said : List ℕ) → (answered unanswered : List Event) → Type 0
SaysFront form bounds m said answered unanswered = loop.SaysFront form (controller bounds) m said answered unanswered

-- What a run over an input has said at a status, where these events were answered and the others were not: the replies to the
-- answered ones, each whole, and where a reply was not taken a front of the next one beside them.
abbrev pub Says : Form → StoreBounds → Machine → Status → (said : List ℕ) → (answered unanswered : List Event) → Type 0
Says form bounds m status said answered unanswered = loop.Says form (controller bounds) m status said answered unanswered
