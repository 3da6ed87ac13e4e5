use Rattle.std.proofs.Common.{sym, subst}
use Rattle.std.proofs.lemmas.Result.{err_from_is_err_and}
use Rattle.row_store.specs.StoredRows.{Stored}
use Rattle.ship_core.specs.declared.faults.ShipFault.{ShipFault}
use Rattle.ship_core.specs.Faults.{FindFails}
use Rattle.ship_core.proofs.JudgeLaws.{rows_fail, rows_cause, store_fails, store_cause}
use Rattle.ship_core.proofs.judging.find.Goals as goal

pub returns-in_err-judge-in-Ok-clause-fault : goal.returns-in_err-judge-in-Ok-clause-fault
returns-in_err-judge-in-Ok-clause-fault g c =
    let p = err_from_is_err_and c.from_residual.result c.from_residual.ensures.1 in
    rw p.1 (rw p.2 (rows_fail g.D.Desk.tells (g.D.Desk.seen c.args.desk.now).reads c.in-Ok.store _ c.in-Ok.ensures.opens c.in_err-judge-in-Ok.ensures))

pub returns-in_err-judge-in-Ok-clause-cause : goal.returns-in_err-judge-in-Ok-clause-cause
returns-in_err-judge-in-Ok-clause-cause g c =
    let p = err_from_is_err_and c.from_residual.result c.from_residual.ensures.1 in
    rw p.1 (rw p.2 (rows_cause _ _ c.in-Ok.store _ c.in_err-judge-in-Ok.ensures c.in-Ok.ensures.cause))

pub returns-in-Err-clause-fault : goal.returns-in-Err-clause-fault
returns-in-Err-clause-fault g c =
    subst (λ (x : ShipFault). FindFails g.D.Desk.tells (g.D.Desk.seen c.args.desk.now).reads x) (sym c.of_store.ensures)
    (store_fails g.D.Desk.tells (g.D.Desk.seen c.args.desk.now).reads c.in-Err.fault c.in-Err.ensures.fault)

pub returns-in-Err-clause-cause : goal.returns-in-Err-clause-cause
returns-in-Err-clause-cause g c = rw c.of_store.ensures (store_cause Stored _ _ c.in-Err.fault c.in-Err.ensures.cause)
