use Rattle.std.proofs.lemmas.Result.{err_from_is_err_and}
use Rattle.row_store.proofs.OpeningLaws.{open_rows, open_fails}
use Rattle.row_store.proofs.store.Store.open.Goals as goal

pub returns-in_err-rows-clause-fault : goal.returns-in_err-rows-clause-fault
returns-in_err-rows-clause-fault g c =
    let p = err_from_is_err_and c.from_residual-in_err-rows.result c.from_residual-in_err-rows.ensures.1 in
    rw p.1 (open_fails c.args.format g.D.Desk.tells (g.D.Desk.seen c.args.desk.now).reads (g.D.Desk.seen c.settle.new.desk).reads c.in_ok-standing.standing p.0
    c.in_ok-standing.ensures.opens c.in_ok-standing.ensures.named (λ told. (c.in_ok-standing.ensures.opened told).found) (rw p.2 c.in_err-rows.ensures.fault))

pub returns-clause-opens : goal.returns-clause-opens
returns-clause-opens g c = λ told.
    open_rows c.args.format (g.D.Desk.seen c.args.desk.now).reads (g.D.Desk.seen c.settle.new.desk).reads c.in_ok-standing.standing c.in_ok-rows.end _
    (c.in_ok-standing.ensures.opens told) c.in_ok-standing.ensures.named (c.in_ok-standing.ensures.opened told).found (c.in_ok-rows.ensures.whole told)
