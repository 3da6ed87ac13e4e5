use Rattle.std.proofs.Common.{◌≡◌, ◌+◌, ◌<◌, ◌%◌, ◌^◌, ap, sym, ◌∙◌, arith, ℕ}
use Rattle.std.proofs.lemmas.Result.{err_from_is_err_and}
use Rattle.ship_frames.specs.Pieces.{piece_count}
use Rattle.ship_core.proofs.PieceSteps.{one_more, one_fails, next_piece}
use Rattle.ship_core.proofs.SaidLaws.{nothing_done}
use Rattle.ship_core.proofs.saying.say_pieces.Goals as goal

pub pieces-init : goal.pieces-init
pieces-init g c = record {
  ships = λ place e. nothing_done c.args.desk.now;
  sequence = λ place e. let same : place + 0 ≡ place = omega arith in e ∙ ap (λ (n : ℕ). n % 2 ^ 32) (sym same);
}

pub pieces-preserved : goal.pieces-preserved
pieces-preserved g c =
    let held = c.pieces.invariant in
    record {
      ships = λ place e. one_more place c.args.shipment.now c.pieces.number (held.ships place e) (c.in_ok-say_piece.ensures.ships (place + c.pieces.number) (held.sequence place e));
      sequence = λ place e. next_piece place c.pieces.number c.pieces.sequence (held.sequence place e);
    }

pub returns-in_err-say_piece-clause-ships : goal.returns-in_err-say_piece-clause-ships
returns-in_err-say_piece-clause-ships g c = λ place e.
    let p = err_from_is_err_and c.from_residual.result c.from_residual.ensures.1 in
    let held = c.pieces.invariant in
    let count = c.piece_count-count.ensures ∙ ap piece_count c.as_slice.ensures in
    let here = c.pieces-test.true in
    let within : c.pieces.number < piece_count c.args.shipment.now.bytes = omega (arith, here, count) in
    rw p.1 (rw p.2 (one_fails place c.args.shipment.now c.pieces.number _ within (held.ships place e) (c.in_err-say_piece.ensures.ships (place + c.pieces.number) (held.sequence place e))))
