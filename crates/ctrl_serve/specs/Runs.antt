-- What the parts of a run do, up to the headline. Only private contracts cite these.
use Rattle.std.specs.Prelude.{◌≡◌, true, IsTrue, take}
use Rattle.ziti_outside.specs.Moments.{Elapses}
use Rattle.ziti_outside.specs.Views.{Outside}
use Rattle.run_notes.specs.declared.status.Status.{Status}
use Rattle.run_notes.specs.declared.status.Status.TheVariants.{WriteFault}
use Rattle.run_notes.specs.Inputs.{events_in}
use Rattle.run_notes.specs.Endings.{is_kept}
use Rattle.ctrl_keep.specs.KeptController.{Controlled, machine_of}
pub use Rattle.serve_loop.specs.FaultCounts.{CountsFaults, IsDiskCaused, IsWriteCaused}
use Rattle.ctrl_serve.specs.FollowedFolders.{FollowsInput}
use Rattle.ctrl_serve.specs.FrameAnswer.{last_machine}
use Rattle.ctrl_serve.specs.Headline.{Serves, Taking}
use Rattle.ctrl_serve.specs.OpenedFolders.{Keeps}
use Rattle.ctrl_serve.specs.RunStops.{AllOpenTo, StopFinds}
use Rattle.ctrl_serve.specs.UnsaidReplies.{KeepsOneAhead}

-- A run from a kept controller on. Where it ended with all kept, the folder keeps the machine behind all frames of the used bytes, and what
-- a stop may leave opens to its state.
pub record RunsKept {S D : Type 0} (taking : Taking) (k : Controlled) (o : Outside S D) (source source_now : S) (desk desk_now : D) (status : Status) : Type 0 where
  pub serves : Serves taking k.stored.bounds (machine_of k) (o.left source) (o.left source_now) (o.seen desk) (o.seen desk_now) status
  pub keeps : is_kept status ≡ true → IsTrue o.tells → Keeps (o.seen desk_now).reads (last_machine taking.form k.stored.bounds (machine_of k) (take taking.most serves.taken))
  pub found : is_kept status ≡ true → IsTrue o.tells → AllOpenTo (o.stopped desk_now).images (last_machine taking.form k.stored.bounds (machine_of k) (take taking.most serves.taken)).state
  pub follows : is_kept status ≡ true → IsTrue o.tells → FollowsInput taking.form k.stored.bounds (machine_of k) (o.seen desk).reads (o.seen desk_now).reads (take taking.most serves.taken)
  pub stops : IsTrue o.tells
      → Elapses (o.stopped desk) (o.stopped desk_now) (StopFinds taking.form k.stored.bounds (machine_of k) (events_in taking.form (take taking.most serves.taken)) (o.seen desk).said)
  pub ahead : status ≡ WriteFault → IsTrue o.tells
      → KeepsOneAhead taking.form k.stored.bounds (machine_of k) serves.answered serves.unanswered (o.seen desk_now).reads (o.stopped desk_now).images
