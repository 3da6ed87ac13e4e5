use Rattle.std.proofs.Common.{IsErrOf, List, ◌∙◌, subst}
use Rattle.row_codec.specs.declared.changes.Op.{Op}
use Rattle.row_loading.specs.LoadedRows.{Loads}
use Rattle.row_loading.specs.declared.faults.CoreFault.{CoreFault}
use Rattle.zitilook.proofs.OpenedLaws.{all_read, taken_state}
use Rattle.zitilook.proofs.opening.rows_of.Goals as goal

pub returns-in-Ok-clause-state : goal.returns-in-Ok-clause-state
returns-in-Ok-clause-state c = λ s those. taken_state c.args.format c.args.puts.now c.as_slice.result.now c.in-Ok.rows.items c.as_slice.ensures c.in-Ok.ensures.read s those

pub returns-in-Ok-clause-rows : goal.returns-in-Ok-clause-rows
returns-in-Ok-clause-rows c = λ s those. record {
  valid = those.valid;
  has = those.has;
  loads = subst (λ (ops : List Op). Loads c.args.format ops c.in-Ok.rows.items) (c.as_slice.ensures ∙ those.puts) c.in-Ok.ensures.read;
}

pub unreachable-requires : goal.unreachable-requires
unreachable-requires c =
    let told = subst (λ (x : CoreFault). IsErrOf c.read_rows.result x) c.in-Err-NotAState.field-0-is c.in-Err-NotAState.is in
    all_read c.args.format c.args.puts.now c.as_slice.result.now c.in-Err-NotAState.field-0-0 c.in-Err-NotAState.field-0-1 c.as_slice.ensures
    (c.read_rows.ensures.unread c.in-Err-NotAState.field-0-0 c.in-Err-NotAState.field-0-1 told) c.requires.0 c.requires.1
