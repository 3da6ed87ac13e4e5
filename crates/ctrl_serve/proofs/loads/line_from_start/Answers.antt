use Rattle.std.proofs.Common.{◌≡◌, IfOk, subst}
use Rattle.ctrl_core.specs.KeptState.{Cored}
use Rattle.ctrl_model.specs.declared.kinds.Who.TheVariants.{Admin}
use Rattle.ctrl_serve.specs.FrameAnswer.{no_bounds, alone, machine_behind_alone}
use Rattle.ctrl_serve.specs.Loads.{counts_line}
use Rattle.ctrl_serve.proofs.loads.line_from_start.Goals as goal

pub returns : goal.returns
returns c =
    subst (λ (k : Cored). IfOk c.line_behind-line.result (λ line. line.items ≡ counts_line (machine_behind_alone no_bounds Admin (alone k.state) c.args.frames.now).state))
    c.in_ok-core.ensures c.line_behind-line.ensures
