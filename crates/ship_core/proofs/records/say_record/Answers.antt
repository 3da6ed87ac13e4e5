use Rattle.std.proofs.Common.{ℕ, ◌<◌, ◌≤◌, Some, None, ap, ◌∙◌, subst, arith}
use Rattle.std.proofs.lemmas.Result.{err_from_is_err_and}
use Rattle.ship_core.specs.Steps.{serial_after, shipment_of, frames_if}
use Rattle.ship_core.proofs.RecordSteps.{passed_over, sequence_over, said_pieces, sequence_behind, read_shipment}
use Rattle.ship_core.proofs.SaidLaws.{wanting}
use Rattle.ship_core.proofs.records.say_record.Goals as goal

pub returns-then-serial-from-clause-ships : goal.returns-then-serial-from-clause-ships
returns-then-serial-from-clause-ships g c = λ place e.
    let early = c.if-serial-from.true in
    let number = c.serial_after-serial.ensures ∙ ap (serial_after c.args.way.serial) c.as_slice.ensures in
    passed_over c.args.desk.now c.args.from place (shipment_of c.args.way c.args.batch.now) (subst (λ (n : ℕ). n < c.args.from) number early)

pub returns-then-serial-from-clause-sequence : goal.returns-then-serial-from-clause-sequence
returns-then-serial-from-clause-sequence g c = λ place e.
    let early = c.if-serial-from.true in
    let number = c.serial_after-serial.ensures ∙ ap (serial_after c.args.way.serial) c.as_slice.ensures in
    sequence_over c.args.from place c.args.way.sequence (shipment_of c.args.way c.args.batch.now) (subst (λ (n : ℕ). n < c.args.from) number early) e

pub returns-in_err-shipment-clause-ships : goal.returns-in_err-shipment-clause-ships
returns-in_err-shipment-clause-ships g c = λ place e. wanting c.args.desk.now c.from_residual.result (frames_if c.args.from place (shipment_of c.args.way c.args.batch.now)) c.from_residual.ensures.1

pub returns-in_err-sequence-clause-ships : goal.returns-in_err-sequence-clause-ships
returns-in_err-sequence-clause-ships g c = λ place e.
    let p = err_from_is_err_and c.from_residual-in_err-sequence.result c.from_residual-in_err-sequence.ensures.1 in
    let past = c.if-serial-from.false in
    let number = c.serial_after-serial.ensures ∙ ap (serial_after c.args.way.serial) c.as_slice.ensures in
    let late = subst (λ (n : ℕ). c.args.from ≤ n) number (omega (arith, past)) in
    rw p.1 (rw p.2 (said_pieces c.args.from place (shipment_of c.args.way c.args.batch.now) c.in_ok-shipment.shipment (Some _) (c.in_ok-shipment.ensures ∙ read_shipment c.args.way c.args.batch.now _ number)
    late (c.in_err-sequence.ensures.ships place e)))

pub returns-clause-ships : goal.returns-clause-ships
returns-clause-ships g c = λ place e.
    let past = c.if-serial-from.false in
    let number = c.serial_after-serial.ensures ∙ ap (serial_after c.args.way.serial) c.as_slice.ensures in
    let late = subst (λ (n : ℕ). c.args.from ≤ n) number (omega (arith, past)) in
    said_pieces c.args.from place (shipment_of c.args.way c.args.batch.now) c.in_ok-shipment.shipment None (c.in_ok-shipment.ensures ∙ read_shipment c.args.way c.args.batch.now _ number)
    late (c.in_ok-sequence.ensures.ships place e)

pub returns-clause-sequence : goal.returns-clause-sequence
returns-clause-sequence g c = λ place e.
    let past = c.if-serial-from.false in
    let number = c.serial_after-serial.ensures ∙ ap (serial_after c.args.way.serial) c.as_slice.ensures in
    let late = subst (λ (n : ℕ). c.args.from ≤ n) number (omega (arith, past)) in
    sequence_behind c.args.from place c.in_ok-sequence.sequence (shipment_of c.args.way c.args.batch.now) c.in_ok-shipment.shipment
    (c.in_ok-shipment.ensures ∙ read_shipment c.args.way c.args.batch.now _ number) late (c.in_ok-sequence.ensures.behind place e)
