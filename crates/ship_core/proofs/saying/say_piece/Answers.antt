use Rattle.std.proofs.Common.{[], ◌∷◌, subst}
use Rattle.channel_frame.specs.declared.frames.Frame.{Frame}
use Rattle.ship_core.specs.Faults.{fault_of}
use Rattle.ship_frames.specs.Pieces.{piece_frame}
use Rattle.ship_core.specs.Steps.{ShipsFrames}
use Rattle.ship_core.proofs.SaidLaws.{wanting}
use Rattle.ship_core.proofs.saying.say_piece.Goals as goal

pub returns-in_err-frame-clause-ships : goal.returns-in_err-frame-clause-ships
returns-in_err-frame-clause-ships g c = λ place e. wanting c.args.desk.now c.from_residual.result (piece_frame place c.args.shipment.now c.args.number ∷ []) c.from_residual.ensures.1

pub returns-clause-ships : goal.returns-clause-ships
returns-clause-ships g c = λ place e.
    subst (λ (f : Frame). ShipsFrames g.D.Desk.seen g.D.Desk.stopped c.args.desk.now c.say_frame.new.desk (fault_of c.say_frame.result) (f ∷ []))
    (c.in_ok-frame.ensures.frame place e) c.say_frame.ensures.ships
