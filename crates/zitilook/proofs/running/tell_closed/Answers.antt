use Rattle.std.proofs.Common.{sym, subst}
use Rattle.ctrl_keep.specs.declared.faults.KeepFault.{KeepFault}
use Rattle.zitilook.specs.Steps.{TellsClosed}
use Rattle.zitilook.proofs.running.tell_closed.Goals as goal

pub returns-in-Damaged-clause-told : goal.returns-in-Damaged-clause-told
returns-in-Damaged-clause-told g c =
    let d = g.D.Desk in
    subst (λ (f : KeepFault). TellsClosed f c.tell_damage.result (d.seen c.args.desk.now) (d.seen c.tell_damage.new.desk)) (sym c.in-Damaged.is)
    (c.tell_damage.ensures.status, c.tell_damage.ensures.noted)
