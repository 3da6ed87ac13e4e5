use Rattle.std.proofs.Common.{None, Some, arith}
use Rattle.std.proofs.lemmas.Result.{err_from_is_err_and}
use Rattle.ziti_outside.proofs.MomentLaws.{OnlyReads-then}
use Rattle.ship_core.proofs.JudgeLaws.{cause_behind, fails_before, opened_by, disk_fails}
use Rattle.ship_core.proofs.judging.open.Goals as goal

pub returns-in_err-len-clause-fault : goal.returns-in_err-len-clause-fault
returns-in_err-len-clause-fault g c =
    let p = err_from_is_err_and c.from_residual.result c.from_residual.ensures.1 in
    rw p.1 (rw p.2 (disk_fails g.D.Desk.tells (g.D.Desk.seen c.args.desk.now).reads _ c.in_err-len.ensures.fault))

pub returns-in_err-len-clause-cause : goal.returns-in_err-len-clause-cause
returns-in_err-len-clause-cause g c =
    let p = err_from_is_err_and c.from_residual.result c.from_residual.ensures.1 in
    rw p.1 (rw p.2 c.in_err-len.ensures.cause)

pub returns-then-len-eq0-clause-opens : goal.returns-then-len-eq0-clause-opens
returns-then-len-eq0-clause-opens g c = λ told. let here = c.in_ok-len.ensures.len told in let none = c.if-len-eq0.true in omega (arith, here, none)

pub returns-in_err-store-clause-fault : goal.returns-in_err-store-clause-fault
returns-in_err-store-clause-fault g c =
    let p = err_from_is_err_and c.from_residual-in_err-store.result c.from_residual-in_err-store.ensures.1 in
    rw p.1 (rw p.2 (fails_before g.D.Desk.tells (g.D.Desk.seen c.args.desk.now).reads _ _ c.mark_len.ensures.reads.parts c.in_err-store.ensures.fault))

pub returns-in_err-store-clause-cause : goal.returns-in_err-store-clause-cause
returns-in_err-store-clause-cause g c =
    let p = err_from_is_err_and c.from_residual-in_err-store.result c.from_residual-in_err-store.ensures.1 in
    rw p.1 (rw p.2 (cause_behind _ _ _ (Some _) c.in_ok-len.ensures.cause c.in_err-store.ensures.cause))

pub returns-in_err-store-clause-reads : goal.returns-in_err-store-clause-reads
returns-in_err-store-clause-reads g c = OnlyReads-then c.mark_len.ensures.reads c.find.ensures.reads

pub returns-clause-opens : goal.returns-clause-opens
returns-clause-opens g c = λ told.
    opened_by (g.D.Desk.seen c.args.desk.now).reads _ c.in_ok-store.store c.in_ok-len.len c.mark_len.ensures.reads.parts (c.in_ok-len.ensures.len told) c.if-len-eq0.false
    (c.in_ok-store.ensures.kept told) c.in_ok-store.ensures.state

pub returns-clause-cause : goal.returns-clause-cause
returns-clause-cause g c = cause_behind _ _ _ None c.in_ok-len.ensures.cause c.in_ok-store.ensures.cause

pub returns-clause-reads : goal.returns-clause-reads
returns-clause-reads g c = OnlyReads-then c.mark_len.ensures.reads c.find.ensures.reads

pub returns-clause-state : goal.returns-clause-state
returns-clause-state g c = c.in_ok-store.ensures.state
