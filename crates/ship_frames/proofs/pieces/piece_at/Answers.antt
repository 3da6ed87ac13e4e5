use Rattle.std.proofs.Common.{ℕ, ◌*◌, ◌-◌, min, List, length, take, drop, ap, ◌∙◌, arith}
use Rattle.std.proofs.lemmas.List.{take_all, take_min, length-drop}
use Rattle.ship_frames.specs.Pieces.{piece_size}
use Rattle.ship_frames.proofs.pieces.piece_at.Goals as goal

pub returns : goal.returns
returns c =
    let rest = drop (c.args.number * piece_size) c.args.bytes.now in
    let long = length-drop (c.args.number * piece_size) c.args.bytes.now in
    let whole = take_all (length c.args.bytes.now - c.args.number * piece_size) rest (omega (arith, long)) in
    ap (λ (l : List ℕ). take c.min.result l) whole
    ∙ ap (λ (n : ℕ). take n rest) (c.min.ensures ∙ ap (λ (l : List ℕ). min piece_size (length l)) whole)
    ∙ take_min piece_size rest
