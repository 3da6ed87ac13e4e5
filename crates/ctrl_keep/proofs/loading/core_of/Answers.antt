use Rattle.std.proofs.Common.{IsErrOf, subst}
use Rattle.row_loading.specs.declared.faults.CoreFault.{CoreFault}
use Rattle.ctrl_keep.proofs.OpenedFolders.{has_state, no_rows_in}
use Rattle.ctrl_keep.proofs.loading.core_of.Goals as goal

pub returns-in-Ok-clause-state : goal.returns-in-Ok-clause-state
returns-in-Ok-clause-state c =
    has_state c.args.store.now c.format.result c.in-Ok.core.state _ c.format.ensures c.in_ok-rows.ensures.puts c.in-Ok.ensures.rows c.in-Ok.ensures.valid c.in-Ok.ensures.has_rows

pub returns-in-Err-NotAState-clause-fault : goal.returns-in-Err-NotAState-clause-fault
returns-in-Err-NotAState-clause-fault c =
    let told = subst (λ (x : CoreFault). IsErrOf c.from_rows.result x) c.in-Err-NotAState.field-0-is c.in-Err-NotAState.is in (
      c.end-part.ensures.0,
      c.end-part.ensures.1,
      no_rows_in c.args.store.now c.format.result _ c.format.ensures c.in_ok-rows.ensures.puts
          (c.from_rows.ensures.none c.in-Err-NotAState.field-0-0 c.in-Err-NotAState.field-0-1 told),
    )
