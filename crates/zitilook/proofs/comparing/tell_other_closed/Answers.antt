use Rattle.std.proofs.Common.{sym, subst}
use Rattle.ctrl_keep.specs.declared.faults.KeepFault.{KeepFault}
use Rattle.zitilook.specs.Steps.{TellsOther}
use Rattle.zitilook.proofs.comparing.tell_other_closed.Goals as goal

pub returns-in-Damaged-clause-told : goal.returns-in-Damaged-clause-told
returns-in-Damaged-clause-told g c =
    let d = g.D.Desk in
    subst (λ (f : KeepFault). TellsOther f c.tell_other_damage.result (d.seen c.args.desk.now) (d.seen c.tell_other_damage.new.desk)) (sym c.in-Damaged.is)
    (c.tell_other_damage.ensures.status, c.tell_other_damage.ensures.noted)
