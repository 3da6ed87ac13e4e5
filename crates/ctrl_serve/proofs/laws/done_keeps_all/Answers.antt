use Rattle.ctrl_serve.proofs.LeftFolderLaws.{done_keeps}
use Rattle.ctrl_serve.proofs.laws.done_keeps_all.Goals as goal

pub returns : goal.returns
returns g c = record {
  folder = λ bounds words form source source_now desk desk_now bytes s runs left told opens.
      done_keeps (record { left = g.S.Source.left; faults = g.S.Source.faults; tells = g.D.Desk.tells; seen = g.D.Desk.seen; stopped = g.D.Desk.stopped }) bounds words form source source_now desk desk_now bytes s runs left told opens;
}
