use Rattle.std.proofs.Common.{List, sym, ap, ◌∙◌}
use Rattle.row_codec.specs.declared.changes.Op.{Op}
use Rattle.slot_reading.specs.BatchRows.{puts, rows_after}
use Rattle.follow_core.specs.BatchBytes.{is_true_difference}
use Rattle.follow_core.proofs.FoundLeads.{replaced_on, replaced_nowhere, added_unchanged, added_on, added_nowhere}
use Rattle.follow_core.proofs.deciding.goes_nowhere.Goals as goal

pub returns-then-is_replaced-clause-on : goal.returns-then-is_replaced-clause-on
returns-then-is_replaced-clause-on c = λ n.
    replaced_on c.args.shipment.now c.args.ops.now c.args.store.now c.in_ok-of_serial.of_serial c.requires.batch (sym c.is_replaced.ensures ∙ c.if-is_replaced.true) c.requires.whole
    c.in_ok-of_serial.ensures.yes n

pub returns-then-is_replaced-clause-nowhere : goal.returns-then-is_replaced-clause-nowhere
returns-then-is_replaced-clause-nowhere c = λ n on.
    replaced_nowhere c.args.shipment.now c.args.ops.now c.args.store.now c.in_ok-of_serial.of_serial c.requires.batch (sym c.is_replaced.ensures ∙ c.if-is_replaced.true) c.requires.whole
    c.in_ok-of_serial.ensures.no n on

pub returns-then-not-is_true_difference-clause-nowhere : goal.returns-then-not-is_true_difference-clause-nowhere
returns-then-not-is_true_difference-clause-nowhere c = λ n on.
    added_unchanged c.args.shipment.now c.args.ops.now c.args.store.now (sym c.is_replaced.ensures ∙ c.if-is_replaced.false)
    (ap (is_true_difference c.args.store.now.rows) (sym c.as_slice.ensures) ∙ sym c.is_true_difference.ensures ∙ c.if-not-is_true_difference.true) on

pub returns-clause-on : goal.returns-clause-on
returns-clause-on c = λ n.
    added_on c.args.shipment.now c.args.ops.now c.in_ok-rows.rows c.args.store.now c.in_ok-of_serial-2.of_serial (sym c.is_replaced.ensures ∙ c.if-is_replaced.false)
    (ap (is_true_difference c.args.store.now.rows) (sym c.as_slice.ensures) ∙ sym c.is_true_difference.ensures ∙ c.if-not-is_true_difference.false)
    (c.in_ok-rows.ensures ∙ ap (λ (os : List Op). puts (rows_after c.args.store.now.rows os)) c.as_slice-2.ensures) c.in_ok-of_serial-2.ensures.yes n

pub returns-clause-nowhere : goal.returns-clause-nowhere
returns-clause-nowhere c = λ n on.
    added_nowhere c.args.shipment.now c.args.ops.now c.in_ok-rows.rows c.args.store.now c.in_ok-of_serial-2.of_serial (sym c.is_replaced.ensures ∙ c.if-is_replaced.false)
    (c.in_ok-rows.ensures ∙ ap (λ (os : List Op). puts (rows_after c.args.store.now.rows os)) c.as_slice-2.ensures) c.in_ok-of_serial-2.ensures.no n on
