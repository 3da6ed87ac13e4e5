use Rattle.std.proofs.Common.{◌∙◌}
use Rattle.ship_frames.proofs.FrameParts.{frame_is, frame_keeps}
use Rattle.ship_frames.proofs.pieces.piece_frame.Goals as goal

pub returns-clause-frame : goal.returns-clause-frame
returns-clause-frame c = λ place e.
    frame_is place c.type_of.result c.args.sequence c.args.shipment.now c.args.number c.piece_count.result c.in_ok-headers.headers c.in_ok-body.body c.as_slice-bytes.result.now
    c.type_of.ensures e c.as_slice-bytes.ensures c.piece_count.ensures (c.in_ok-body.ensures ∙ c.piece_at.ensures) c.in_ok-headers.ensures

pub returns-clause-limits : goal.returns-clause-limits
returns-clause-limits c =
    frame_keeps c.type_of.result c.args.sequence c.args.shipment.now.serial c.args.number c.piece_count.result c.in_ok-headers.headers c.in_ok-body.body c.as_slice-bytes.result.now
    (c.in_ok-body.ensures ∙ c.piece_at.ensures) c.in_ok-headers.ensures
