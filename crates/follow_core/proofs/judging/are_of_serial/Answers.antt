use Rattle.std.proofs.Common.{IsErrOf, subst}
use Rattle.row_loading.specs.declared.faults.CoreFault.{CoreFault}
use Rattle.follow_core.proofs.JudgedPuts.{judged_yes, judged_no, judged_none}
use Rattle.follow_core.proofs.judging.are_of_serial.Goals as goal

pub returns-in-Ok-clause-yes : goal.returns-in-Ok-clause-yes
returns-in-Ok-clause-yes c = λ e put is.
    judged_yes c.args.serial c.serial.result c.args.rows.now c.in-Ok.core.state c.serial.ensures c.in-Ok.ensures.valid c.in-Ok.ensures.rows e put is

pub returns-in-Ok-clause-no : goal.returns-in-Ok-clause-no
returns-in-Ok-clause-no c = λ e put is a.
    judged_no c.args.serial c.serial.result c.args.rows.now c.in-Ok.core.state c.serial.ensures c.in-Ok.ensures.valid c.in-Ok.ensures.rows e put is a

pub returns-in-Err-NotAState-clause-no : goal.returns-in-Err-NotAState-clause-no
returns-in-Err-NotAState-clause-no c = λ e put is a.
    let told = subst (λ (x : CoreFault). IsErrOf c.from_rows.result x) c.in-Err-NotAState.field-0-is c.in-Err-NotAState.is in
    judged_none c.args.serial c.args.rows.now (c.from_rows.ensures.none c.in-Err-NotAState.field-0-0 c.in-Err-NotAState.field-0-1 told) put is a
