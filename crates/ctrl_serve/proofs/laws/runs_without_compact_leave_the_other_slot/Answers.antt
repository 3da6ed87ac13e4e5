use Rattle.ctrl_serve.proofs.UncompactedRuns.{done_leaves, last_mark, replay_leaves}
use Rattle.ctrl_serve.proofs.laws.runs_without_compact_leave_the_other_slot.Goals as goal

pub returns-clause-machine : goal.returns-clause-machine
returns-clause-machine g c = last_mark

pub returns-clause-folder : goal.returns-clause-folder
returns-clause-folder g c taking bounds source source_now desk desk_now status replays kept told other none =
    replay_leaves (record { left = g.S.Source.left; faults = g.S.Source.faults; tells = g.D.Desk.tells; seen = g.D.Desk.seen; stopped = g.D.Desk.stopped }) taking bounds source source_now desk desk_now status replays kept told other none

pub returns-clause-done : goal.returns-clause-done
returns-clause-done g c bounds words form source source_now desk desk_now bytes runs left told other none =
    done_leaves (record { left = g.S.Source.left; faults = g.S.Source.faults; tells = g.D.Desk.tells; seen = g.D.Desk.seen; stopped = g.D.Desk.stopped }) bounds words form source source_now desk desk_now bytes runs left told other none
