use Rattle.std.proofs.lemmas.Result.{err_from_is_err_and}
use Rattle.ctrl_model.specs.declared.commands.Command.TheVariants as command
use Rattle.command_codec.proofs.command_values.service_policy_command.Goals as goal

pub returns-in_err-policy-in-1100 : goal.returns-in_err-policy-in-1100
returns-in_err-policy-in-1100 c =
    let p = err_from_is_err_and c.from_residual.result c.from_residual.ensures.1 in
    rw (p.1, p.2, c.in-1100.is) (c.in_err-policy-in-1100.ensures command.CreateServicePolicy)

pub returns-in_ok-policy-in-1100 : goal.returns-in_ok-policy-in-1100
returns-in_ok-policy-in-1100 c = rw c.in-1100.is (c.in_ok-policy-in-1100.ensures command.CreateServicePolicy)

pub returns-in_err-policy-in-1101 : goal.returns-in_err-policy-in-1101
returns-in_err-policy-in-1101 c =
    let p = err_from_is_err_and c.from_residual-in_err-policy-in-1101.result c.from_residual-in_err-policy-in-1101.ensures.1 in
    rw (p.1, p.2, c.in-1101.is) (c.in_err-policy-in-1101.ensures command.UpdateServicePolicy)

pub returns-in_ok-policy-in-1101 : goal.returns-in_ok-policy-in-1101
returns-in_ok-policy-in-1101 c = rw c.in-1101.is (c.in_ok-policy-in-1101.ensures command.UpdateServicePolicy)
