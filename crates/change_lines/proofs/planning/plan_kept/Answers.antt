use Rattle.std.proofs.Common.{◌∙◌}
use Rattle.std.proofs.lemmas.Result.{IfOk-at_ok}
use Rattle.ctrl_model.specs.State.{State}
use Rattle.ctrl_model.specs.ValidState.{ValidState}
use Rattle.frame_lines.specs.TextLines.{lines_of}
use Rattle.change_plans.specs.PlannedLines.{planned}
use Rattle.change_lines.proofs.PlanLaws.{is_plan}
use Rattle.change_lines.proofs.planning.plan_kept.Goals as goal

pub returns-in_ok-plan_of-in-Ok-clause-plan : goal.returns-in_ok-plan_of-in-Ok-clause-plan
returns-in_ok-plan_of-in-Ok-clause-plan c =
    let next : State = (planned (lines_of c.args.text.now) c.args.core.now.state).0 in
    let valid : ValidState next = IfOk-at_ok _ c.in-Ok.is c.in_ok-refused.ensures.valid in
    is_plan c.args.core.now.state c.args.text.now c.as_slice.result.now c.in_ok-plan_of-in-Ok.field-0
    (c.as_slice.ensures.value ∙ IfOk-at_ok _ c.in-Ok.is c.in_ok-refused.ensures.refused)
    (c.in_ok-plan_of-in-Ok.ensures c.requires.rows.0 c.args.core.now.state next c.requires.rows.1
    (record { valid = valid; rows_are = IfOk-at_ok _ c.in-Ok.is c.in_ok-refused.ensures.rows }))
