use Rattle.std.proofs.Common.{sym, subst}
use Rattle.ship_core.specs.declared.faults.ShipFault.{ShipFault}
use Rattle.ctrl_serve.specs.FolderRuns.{TellsUnshipped}
use Rattle.ctrl_serve.proofs.shipping.tell_unshipped.Goals as goal

pub returns-in-Damaged-clause-told : goal.returns-in-Damaged-clause-told
returns-in-Damaged-clause-told g c =
    let d = g.D.Desk in
    subst (λ (f : ShipFault). TellsUnshipped f c.tell_damage.result (d.seen c.args.desk.now) (d.seen c.tell_damage.new.desk)) (sym c.in-Damaged.is) (c.tell_damage.ensures.status, c.tell_damage.ensures.told)
