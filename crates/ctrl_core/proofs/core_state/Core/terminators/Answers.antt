use Rattle.std.proofs.Common.{◌∙◌, ap}
use Rattle.ctrl_model.specs.Networks.{open_circuits}
use Rattle.ctrl_core.specs.KeptState.{Cored}
use Rattle.ctrl_core.proofs.core_state.Core.terminators.Goals as goal

pub returns-clause-loads : goal.returns-clause-loads
returns-clause-loads c = λ n.
    (c.self.invariant (ap (λ (v : Cored). v.live) c.self.view_is ∙ c.requires)).0.loads n ∙ ap (λ (v : Cored). open_circuits v.state n) c.self.view_is
