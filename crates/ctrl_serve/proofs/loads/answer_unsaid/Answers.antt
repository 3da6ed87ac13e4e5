use Rattle.std.proofs.Common.{Bool, ap, ap₂}
use Rattle.ctrl_core.specs.KeptState.{Cored}
use Rattle.ctrl_model.specs.declared.replies.Reply.{Reply}
use Rattle.ctrl_model.specs.State.{State}
use Rattle.ctrl_keep.specs.KeptMachine.{Machine}
use Rattle.ctrl_serve.proofs.loads.answer_unsaid.Goals as goal

-- A core, by its parts.
abbrev core_of : State → Bool → Cored
core_of s live = record { state = s; live = live }

pub returns : goal.returns
returns c = ap₂ core_of (ap (λ (p : Reply × Machine). p.1.state) c.in_ok-reply.ensures.ok) c.in_ok-reply.ensures.live
