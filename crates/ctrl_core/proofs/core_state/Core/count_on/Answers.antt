use Rattle.std.proofs.Common.{◌∙◌, ◌+◌, ap, arith}
use Rattle.ctrl_model.specs.State.{State}
use Rattle.ctrl_core.specs.KeptState.{Cored}
use Rattle.ctrl_core.proofs.TakenLaws.{keeps_counted}
use Rattle.ctrl_core.proofs.core_state.Core.count_on.Goals as goal

pub invariant_of-self : goal.invariant_of-self
invariant_of-self c = λ _.
    let kept = c.self.invariant (ap (λ (v : Cored). v.live) c.self.view_is ∙ c.requires.live) in
    let room = c.requires.room in
    let serial = ap (λ (v : Cored). v.state.serial) c.self.view_is in (keeps_counted c.self.inside.stores kept.0 (omega (arith, room, serial)), λ told. ap (λ (s : State). record s { serial = c.self.inside.stores.serial + 1 }) (kept.1 told))
