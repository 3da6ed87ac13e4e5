use Rattle.ctrl_serve.proofs.LeftFolderLaws.{found_within, reads_within}
use Rattle.ctrl_serve.proofs.laws.slots_keep_their_bound.Goals as goal

pub returns-clause-reads : goal.returns-clause-reads
returns-clause-reads g c bounds words form source source_now desk desk_now status runs told within =
    reads_within (record { left = g.S.Source.left; faults = g.S.Source.faults; tells = g.D.Desk.tells; seen = g.D.Desk.seen; stopped = g.D.Desk.stopped }) bounds words form source source_now desk desk_now status runs told within

pub returns-clause-found : goal.returns-clause-found
returns-clause-found g c bounds words form source source_now desk desk_now status runs within image p =
    found_within (record { left = g.S.Source.left; faults = g.S.Source.faults; tells = g.D.Desk.tells; seen = g.D.Desk.seen; stopped = g.D.Desk.stopped }) bounds words form source source_now desk desk_now status runs within image p
