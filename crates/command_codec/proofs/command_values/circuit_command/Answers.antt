use Rattle.std.proofs.Common.{[]}
use Rattle.std.proofs.lemmas.Result.{err_from_is_err_and}
use Rattle.ctrl_model.specs.declared.commands.Command.TheVariants as command
use Rattle.command_codec.proofs.command_values.circuit_command.Goals as goal

pub returns-in_err-asked-in-1400 : goal.returns-in_err-asked-in-1400
returns-in_err-asked-in-1400 c =
    let p = err_from_is_err_and c.from_residual.result c.from_residual.ensures.1 in
    rw (p.1, p.2, c.in-1400.is) (λ other. c.in_err-asked-in-1400.ensures.fault other [] command.CreateCircuit)

pub returns-in_ok-asked-in-1400 : goal.returns-in_ok-asked-in-1400
returns-in_ok-asked-in-1400 c = rw c.in-1400.is (c.in_ok-asked-in-1400.ensures.given [] command.CreateCircuit)

pub returns-in_err-asked-in-1402 : goal.returns-in_err-asked-in-1402
returns-in_err-asked-in-1402 c =
    let p = err_from_is_err_and c.from_residual-in_err-asked-in-1402.result c.from_residual-in_err-asked-in-1402.ensures.1 in
    rw (p.1, p.2, c.in-1402.is) (λ other. c.in_err-asked-in-1402.ensures.fault other [] command.Explain)

pub returns-in_ok-asked-in-1402 : goal.returns-in_ok-asked-in-1402
returns-in_ok-asked-in-1402 c = rw c.in-1402.is (c.in_ok-asked-in-1402.ensures.given [] command.Explain)
