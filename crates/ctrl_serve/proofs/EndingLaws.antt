-- What a status that the input decides says of a told input, of the controller.
use Rattle.std.proofs.Common.{◌≡◌, List, ℕ, [], ◌++◌}
use Rattle.row_store.specs.declared.bounds.StoreBounds.{StoreBounds}
use Rattle.ctrl_keep.specs.KeptMachine.{Machine}
use Rattle.session_mux.specs.declared.events.Event.{Event}
use Rattle.session_mux.specs.declared.sessions.Form.{Form}
use Rattle.run_notes.specs.Inputs.{events_in}
pub use Rattle.serve_loop.proofs.EndingLaws.{told_took}
use Rattle.serve_loop.proofs.EndingLaws as loop
use Rattle.ctrl_serve.specs.FrameAnswer.{controller, replies}
use Rattle.ctrl_serve.specs.SaidReplies.{SaysAll}

pub all_replies : (form : Form) (bounds : StoreBounds) (m : Machine) (used said : List ℕ) (answered unanswered : List Event) → answered ++ unanswered ≡ events_in form used → unanswered ≡ []
    → SaysAll form bounds m said answered → said ≡ replies form bounds m used
all_replies form bounds m used said answered unanswered split none says = loop.all_replies form (controller bounds) m used said answered unanswered split none says
