use Rattle.std.proofs.Common.{List, None, refl, sym, subst, arith}
use Rattle.std.proofs.lemmas.Result.{err_from_is_err_and}
use Rattle.channel_frame.specs.declared.frames.Frame.{Frame}
use Rattle.ship_core.specs.Steps.{ShipsFrames}
use Rattle.ship_core.proofs.OldLaws.{old_frames, old_none, old_empty, old_made, unlike}
use Rattle.ship_core.proofs.SaidLaws.{nothing_done, ships_same, wanting}
use Rattle.ship_core.proofs.shipping.ship_old.Goals as goal

pub returns-then-from-gt0-clause-ships : goal.returns-then-from-gt0-clause-ships
returns-then-from-gt0-clause-ships g c =
    let later = c.if-from-gt0.true in
    subst (λ (l : List Frame). ShipsFrames g.D.Desk.seen g.D.Desk.stopped c.args.desk.now c.args.desk.now None l) (sym (old_none c.args.from c.args.store.now.rows (omega (arith, later)))) (nothing_done c.args.desk.now)

pub returns-in_err-rows-clause-ships : goal.returns-in_err-rows-clause-ships
returns-in_err-rows-clause-ships g c = wanting c.args.desk.now c.from_residual.result (old_frames c.args.from c.args.store.now.rows) c.from_residual.ensures.1

pub returns-then-is_empty-clause-ships : goal.returns-then-is_empty-clause-ships
returns-then-is_empty-clause-ships g c =
    subst (λ (l : List Frame). ShipsFrames g.D.Desk.seen g.D.Desk.stopped c.args.desk.now c.args.desk.now None l)
    (sym (old_empty c.args.from c.args.store.now.rows c.in_ok-rows.rows c.in_ok-rows.ensures.puts (c.is_empty.ensures.0 c.if-is_empty.true))) (nothing_done c.args.desk.now)

pub returns-in_err-bytes-clause-ships : goal.returns-in_err-bytes-clause-ships
returns-in_err-bytes-clause-ships g c = wanting c.args.desk.now c.from_residual-in_err-bytes.result (old_frames c.args.from c.args.store.now.rows) c.from_residual-in_err-bytes.ensures.1

pub returns-in_err-say_pieces-clause-ships : goal.returns-in_err-say_pieces-clause-ships
returns-in_err-say_pieces-clause-ships g c =
    let p = err_from_is_err_and c.from_residual-in_err-say_pieces.result c.from_residual-in_err-say_pieces.ensures.1 in
    let past = c.if-from-gt0.false in
    rw p.1 (rw p.2 (ships_same _ _
    (old_made c.args.from c.args.store.now.rows c.in_ok-rows.rows c.in_ok-bytes.bytes (omega (arith, past)) c.in_ok-rows.ensures.puts (unlike c.is_empty.result c.if-is_empty.false c.is_empty.ensures.1) c.in_ok-bytes.ensures)
    (c.in_err-say_pieces.ensures.ships 0 refl)))

pub returns-clause-ships : goal.returns-clause-ships
returns-clause-ships g c =
    let past = c.if-from-gt0.false in
    subst (λ (l : List Frame). ShipsFrames g.D.Desk.seen g.D.Desk.stopped c.args.desk.now c.say_pieces.new.desk None l)
    (old_made c.args.from c.args.store.now.rows c.in_ok-rows.rows c.in_ok-bytes.bytes (omega (arith, past)) c.in_ok-rows.ensures.puts (unlike c.is_empty.result c.if-is_empty.false c.is_empty.ensures.1) c.in_ok-bytes.ensures)
    (c.in_ok-say_pieces.ensures.ships 0 refl)
