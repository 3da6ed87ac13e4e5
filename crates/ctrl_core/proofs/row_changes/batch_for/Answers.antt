use Rattle.std.proofs.Common.{◌≡◌, List, Some, IfOk, ◌∙◌, ap, subst, arith}
use Rattle.row_codec.specs.declared.changes.Op.{Op}
use Rattle.row_codec.specs.Batches.{batch_of}
use Rattle.core_stores.specs.Serials.{with_serial}
use Rattle.core_stores.specs.StoredState.{state_of}
use Rattle.ctrl_core.specs.ChangedStores.{next_state}
use Rattle.ctrl_core.proofs.KeptRows.{counted_batch, led_serial}
use Rattle.ctrl_core.proofs.row_changes.batch_for.Goals as goal

pub with_serial-requires : goal.with_serial-requires
with_serial-requires c = let upto = c.requires.kept.valid.counted in omega (arith, upto)

pub returns : goal.returns
returns c =
    let st = c.args.stores.now in
    let known = c.requires.known.can in
    let is : c.in_ok-batch.batch ≡ batch_of c.in_ok-changes.changes = c.in_ok-batch.ensures in
    subst (λ (ops : List Op). IfOk c.with_serial.result (λ batch. batch ≡ ops))
    (ap (with_serial st.serial) is
    ∙ counted_batch (state_of st) (next_state st c.args.change.now) c.in_ok-changes.changes known.before known.valid (led_serial (Some c.args.change.now) st c.requires.kept known.can known.valid)
    c.in_ok-changes.ensures) c.with_serial.ensures
