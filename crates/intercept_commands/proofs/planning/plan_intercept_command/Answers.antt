use Rattle.std.proofs.Common.{sym, ◌∙◌, ap}
use Rattle.std.proofs.lemmas.Bool.{and_parts}
use Rattle.ctrl_model.specs.InterceptForm.{is_intercept}
use Rattle.ctrl_model.specs.NameForm.{is_name}
use Rattle.ctrl_model.specs.SpelledCommands.{is_spelled}
use Rattle.intercept_commands.proofs.planning.plan_intercept_command.Goals as goal

pub plan_set_intercept-requires : goal.plan_set_intercept-requires
plan_set_intercept-requires c =
    let set = c.in-SetIntercept in
    (and_parts (is_name set.service) (is_intercept set.intercept) (ap is_spelled (sym set.is) ∙ c.requires)).1
