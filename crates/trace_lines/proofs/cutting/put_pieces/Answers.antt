use Rattle.std.proofs.Common.{◌∙◌}
use Rattle.trace_lines.proofs.PieceLaws.{put_more}
use Rattle.trace_lines.proofs.cutting.put_pieces.Goals as goal

pub pieces-preserved : goal.pieces-preserved
pieces-preserved c =
    put_more c.args.session c.pieces.out.items c.put_data.new.out.items c.pieces.rest.now c.cut_piece.result.0.now c.cut_piece.result.1.now c.cut_piece.ensures.some
    c.cut_piece.ensures.piece c.cut_piece.ensures.behind c.in_ok-put_data.ensures
    ∙ c.pieces.invariant
