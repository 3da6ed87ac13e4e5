use Rattle.std.proofs.lemmas.Result.{err_from_is_err_and}
use Rattle.ctrl_model.specs.declared.commands.Command.TheVariants as command
use Rattle.command_codec.proofs.command_values.edge_router_policy_command.Goals as goal

pub returns-in_err-policy-in-1110 : goal.returns-in_err-policy-in-1110
returns-in_err-policy-in-1110 c =
    let p = err_from_is_err_and c.from_residual.result c.from_residual.ensures.1 in
    rw (p.1, p.2, c.in-1110.is) (c.in_err-policy-in-1110.ensures command.CreateEdgeRouterPolicy)

pub returns-in_ok-policy-in-1110 : goal.returns-in_ok-policy-in-1110
returns-in_ok-policy-in-1110 c = rw c.in-1110.is (c.in_ok-policy-in-1110.ensures command.CreateEdgeRouterPolicy)

pub returns-in_err-policy-in-1111 : goal.returns-in_err-policy-in-1111
returns-in_err-policy-in-1111 c =
    let p = err_from_is_err_and c.from_residual-in_err-policy-in-1111.result c.from_residual-in_err-policy-in-1111.ensures.1 in
    rw (p.1, p.2, c.in-1111.is) (c.in_err-policy-in-1111.ensures command.UpdateEdgeRouterPolicy)

pub returns-in_ok-policy-in-1111 : goal.returns-in_ok-policy-in-1111
returns-in_ok-policy-in-1111 c = rw c.in-1111.is (c.in_ok-policy-in-1111.ensures command.UpdateEdgeRouterPolicy)
