use Rattle.std.proofs.Common.{IsErrOf, Option, sym, subst}
use Rattle.row_loading.specs.declared.faults.CoreFault.{CoreFault}
use Rattle.ship_core.specs.declared.faults.ShipFault.{ShipFault}
use Rattle.ship_core.specs.declared.faults.ShipFault.TheVariants.{NoMemory}
use Rattle.ship_core.specs.Faults.{JudgesRows}
use Rattle.ship_core.proofs.JudgeLaws.{of_state, of_no_state}
use Rattle.ship_core.proofs.SaidLaws.{residual_fault}
use Rattle.ship_core.proofs.judging.judge.Goals as goal

pub returns-in_err-rows : goal.returns-in_err-rows
returns-in_err-rows c = subst (λ (f : Option ShipFault). JudgesRows c.args.store.now f) (sym (residual_fault c.from_residual.result NoMemory c.from_residual.ensures.1)) tt

pub returns-in-Ok : goal.returns-in-Ok
returns-in-Ok c =
    of_state c.args.store.now c.format.result c.in-Ok.core.state _ c.format.ensures c.in_ok-rows.ensures.puts c.in-Ok.ensures.rows c.in-Ok.ensures.valid c.in-Ok.ensures.has_rows

pub returns-in-Err-NotAState : goal.returns-in-Err-NotAState
returns-in-Err-NotAState c =
    let told = subst (λ (x : CoreFault). IsErrOf c.from_rows.result x) c.in-Err-NotAState.field-0-is c.in-Err-NotAState.is in (
      c.end-part.ensures.0,
      c.end-part.ensures.1,
      of_no_state c.args.store.now c.format.result _ c.format.ensures c.in_ok-rows.ensures.puts (c.from_rows.ensures.none c.in-Err-NotAState.field-0-0 c.in-Err-NotAState.field-0-1 told),
    )
