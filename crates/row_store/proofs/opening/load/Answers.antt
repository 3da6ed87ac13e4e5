use Rattle.std.proofs.Common.{sym, subst}
use Rattle.row_store.specs.declared.faults.StoreFault.{StoreFault}
use Rattle.row_store.specs.Faults.{LoadFails}
use Rattle.row_store.proofs.OpeningLaws.{load_fails}
use Rattle.row_store.proofs.opening.load.Goals as goal

pub returns-in-Err-clause-fault : goal.returns-in-Err-clause-fault
returns-in-Err-clause-fault g c =
    subst (λ (f : StoreFault). LoadFails g.D.Desk.tells c.args.standing.format c.args.standing.part ((g.D.Desk.seen c.args.desk.now).reads c.args.standing.part) f) (sym c.in_part.ensures)
    (load_fails _ _ _ _ c.in-Err.fault c.in-Err.ensures.fault)
