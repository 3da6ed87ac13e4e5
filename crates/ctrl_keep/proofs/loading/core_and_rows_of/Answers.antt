use Rattle.std.proofs.Common.{sym, ap, ◌∙◌}
use Rattle.slot_reading.specs.BatchRows.{puts}
use Rattle.row_store.proofs.StateRows.{puts_of_state}
use Rattle.ctrl_keep.proofs.loading.core_and_rows_of.Goals as goal

pub returns-in-Ok-clause-puts : goal.returns-in-Ok-clause-puts
returns-in-Ok-clause-puts c = c.in_ok-puts.ensures.puts ∙ ap puts c.in-Ok.ensures.state.rows ∙ sym (puts_of_state c.args.store.now.format c.in-Ok.core.state)
