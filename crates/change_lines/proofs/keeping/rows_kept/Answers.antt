use Rattle.std.proofs.Common.{IsErrOf, subst}
use Rattle.row_loading.specs.declared.faults.CoreFault.{CoreFault}
use Rattle.slot_reading.specs.BatchRows.{rows_in}
use Rattle.change_lines.proofs.KeptRowLaws.{all_read, read_again}
use Rattle.change_lines.proofs.keeping.rows_kept.Goals as goal

pub returns-in-Ok : goal.returns-in-Ok
returns-in-Ok c = λ s are.
    read_again s (rows_in c.args.kept.now.entries) c.in_ok-batch.batch c.as_slice.result.now c.in-Ok.rows.items are c.in_ok-batch.ensures c.as_slice.ensures c.in-Ok.ensures.read

pub unreachable-requires : goal.unreachable-requires
unreachable-requires c =
    let told = subst (λ (x : CoreFault). IsErrOf c.read_rows.result x) c.in-Err-NotAState.field-0-is c.in-Err-NotAState.is in
    all_read c.requires.0 (rows_in c.args.kept.now.entries) c.in_ok-batch.batch c.as_slice.result.now c.in-Err-NotAState.field-0-0 c.in-Err-NotAState.field-0-1
    c.requires.1 c.in_ok-batch.ensures c.as_slice.ensures (c.read_rows.ensures.unread c.in-Err-NotAState.field-0-0 c.in-Err-NotAState.field-0-1 told)
