-- What a stop finds holds every frame whose reply was taken whole, and at most one frame more.
use Rattle.std.proofs.Common.{◌≤◌, ℕ, List, ◌++◌, length, take, Some, arith}
use Rattle.ziti_outside.specs.Images.{Image}
use Rattle.ziti_outside.specs.Told.{IsFront}
use Rattle.row_store.specs.declared.bounds.StoreBounds.{StoreBounds}
use Rattle.ctrl_keep.specs.KeptMachine.{Machine}
use Rattle.session_mux.specs.declared.sessions.Form.{Form}
use Rattle.session_mux.specs.Completion.{completed}
use Rattle.run_notes.specs.Inputs.{events_in}
use Rattle.serve_loop.proofs.AcknowledgedLaws as loop
use Rattle.ctrl_serve.specs.FrameAnswer.{controller, each_reply}
use Rattle.ctrl_serve.specs.RunStops.{HoldsFirst, StopFinds}
use Rattle.ctrl_serve.specs.SaidReplies.{joined}

-- A reply has a byte, as its frame has a head.
pub stop_holds : (form : Form) (bounds : StoreBounds) (m : Machine) (used before taken : List ℕ) (image : Image) (n : ℕ)
    → StopFinds form bounds m (events_in form used) (Some before) image (before ++ taken) → n ≤ length (completed form used)
    → IsFront (joined (take n (each_reply form bounds m used))) taken → HoldsFirst form bounds m used n image taken
stop_holds form bounds m used before taken image n stop few front =
    loop.stop_holds form (controller bounds) (λ sequence who frame m. omega arith) m used before taken image n stop few front
