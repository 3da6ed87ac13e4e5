use Rattle.ctrl_serve.proofs.LeftFolderLaws.{empty_granted, kept_granted, unsaid_granted}
use Rattle.ctrl_serve.proofs.laws.circuits_stand_on_what_grants_them.Goals as goal

pub returns-clause-kept : goal.returns-clause-kept
returns-clause-kept g c bounds words form source source_now desk desk_now status runs told held kept =
    kept_granted (record { left = g.S.Source.left; faults = g.S.Source.faults; tells = g.D.Desk.tells; seen = g.D.Desk.seen; stopped = g.D.Desk.stopped }) bounds words form source source_now desk desk_now status runs told held kept

pub returns-clause-unsaid : goal.returns-clause-unsaid
returns-clause-unsaid g c bounds words form source source_now desk desk_now runs told held =
    unsaid_granted (record { left = g.S.Source.left; faults = g.S.Source.faults; tells = g.D.Desk.tells; seen = g.D.Desk.seen; stopped = g.D.Desk.stopped }) bounds words form source source_now desk desk_now runs told held

pub returns-clause-begun_empty : goal.returns-clause-begun_empty
returns-clause-begun_empty g c = empty_granted
