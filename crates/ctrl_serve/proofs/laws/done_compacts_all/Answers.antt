use Rattle.ctrl_serve.proofs.LeftFolderLaws.{done_compacts}
use Rattle.ctrl_serve.proofs.laws.done_compacts_all.Goals as goal

pub returns : goal.returns
returns g c = record {
  folder = λ bounds words source source_now desk desk_now s runs told opens. done_compacts (record { left = g.S.Source.left; faults = g.S.Source.faults; tells = g.D.Desk.tells; seen = g.D.Desk.seen; stopped = g.D.Desk.stopped }) bounds words source source_now desk desk_now s runs told opens;
}
