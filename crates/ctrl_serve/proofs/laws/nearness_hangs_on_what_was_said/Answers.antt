use Rattle.ctrl_serve.specs.FrameAnswer.{controller}
use Rattle.serve_loop.proofs.NearLaws.{near_said}
use Rattle.ctrl_serve.proofs.laws.nearness_hangs_on_what_was_said.Goals as goal

pub returns : goal.returns
returns c = record { near = λ form bounds. near_said form (controller bounds) }
