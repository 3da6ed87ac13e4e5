use Rattle.std.proofs.Common.{◌∙◌}
use Rattle.std.proofs.lemmas.Result.{err_from_is_err_and}
use Rattle.ctrl_model.specs.declared.commands.Command.TheVariants as command
use Rattle.command_codec.specs.ClaimForm.{claimed}
use Rattle.command_codec.proofs.command_values.verify_route.Goals as goal

pub returns-in_err-asked : goal.returns-in_err-asked
returns-in_err-asked c =
    let p = err_from_is_err_and c.from_residual.result c.from_residual.ensures.1 in
    rw (p.1, p.2) (λ other. c.in_err-asked.ensures.fault other claimed command.VerifyRoute)

pub returns-in_err-route : goal.returns-in_err-route
returns-in_err-route c =
    let r = c.in_ok-asked.asked in
    let p = err_from_is_err_and c.from_residual-in_err-route.result c.from_residual-in_err-route.ensures.1 in
    rw (p.1, p.2) (λ other.
    c.in_ok-asked.ensures.given claimed command.VerifyRoute ∙ c.in_err-route.ensures (command.VerifyRoute r.identity r.service r.ingress r.instance) other)

pub returns : goal.returns
returns c =
    let r = c.in_ok-asked.asked in
    c.in_ok-asked.ensures.given claimed command.VerifyRoute ∙ c.in_ok-route.ensures (command.VerifyRoute r.identity r.service r.ingress r.instance)
