use Rattle.ctrl_serve.proofs.CompleteRunLaws.{replay_is_complete, follow_is_complete, audit_is_complete, advise_is_complete, ship_is_complete, compact_is_complete}
use Rattle.ctrl_serve.proofs.laws.runs_are_complete.Goals as goal

pub returns-clause-replay : goal.returns-clause-replay
returns-clause-replay g c bounds words form source source_now desk desk_now status s runs told opens takes says disk =
    replay_is_complete (record { left = g.S.Source.left; faults = g.S.Source.faults; tells = g.D.Desk.tells; seen = g.D.Desk.seen; stopped = g.D.Desk.stopped }) bounds words form source source_now desk desk_now status s runs told opens takes says disk

pub returns-clause-follow : goal.returns-clause-follow
returns-clause-follow g c bounds words source source_now desk desk_now status s runs told opens takes says disk =
    follow_is_complete (record { left = g.S.Source.left; faults = g.S.Source.faults; tells = g.D.Desk.tells; seen = g.D.Desk.seen; stopped = g.D.Desk.stopped }) bounds words source source_now desk desk_now status s runs told opens takes says disk

pub returns-clause-audit : goal.returns-clause-audit
returns-clause-audit g c bounds words source source_now desk desk_now status s runs told opens says disk =
    audit_is_complete (record { left = g.S.Source.left; faults = g.S.Source.faults; tells = g.D.Desk.tells; seen = g.D.Desk.seen; stopped = g.D.Desk.stopped }) bounds words source source_now desk desk_now status s runs told opens says disk

pub returns-clause-compact : goal.returns-clause-compact
returns-clause-compact g c bounds words source source_now desk desk_now status s runs told opens disk =
    compact_is_complete (record { left = g.S.Source.left; faults = g.S.Source.faults; tells = g.D.Desk.tells; seen = g.D.Desk.seen; stopped = g.D.Desk.stopped }) bounds words source source_now desk desk_now status s runs told opens disk

pub returns-clause-advise : goal.returns-clause-advise
returns-clause-advise g c bounds identity service source source_now desk desk_now status s runs told opens says disk =
    advise_is_complete (record { left = g.S.Source.left; faults = g.S.Source.faults; tells = g.D.Desk.tells; seen = g.D.Desk.seen; stopped = g.D.Desk.stopped }) bounds identity service source source_now desk desk_now status s runs told opens says disk

pub returns-clause-ship : goal.returns-clause-ship
returns-clause-ship g c bounds words from source source_now desk desk_now status s format batches runs told opens stands says disk =
    ship_is_complete (record { left = g.S.Source.left; faults = g.S.Source.faults; tells = g.D.Desk.tells; seen = g.D.Desk.seen; stopped = g.D.Desk.stopped }) bounds words from source source_now desk desk_now status s format batches runs told opens stands says disk
