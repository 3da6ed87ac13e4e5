use Rattle.std.proofs.lemmas.Result.{err_from_is_err_and}
use Rattle.ctrl_model.specs.declared.commands.Command.TheVariants as command
use Rattle.command_codec.proofs.command_values.service_edge_router_policy_command.Goals as goal

pub returns-in_err-policy-in-1120 : goal.returns-in_err-policy-in-1120
returns-in_err-policy-in-1120 c =
    let p = err_from_is_err_and c.from_residual.result c.from_residual.ensures.1 in
    rw (p.1, p.2, c.in-1120.is) (c.in_err-policy-in-1120.ensures command.CreateServiceEdgeRouterPolicy)

pub returns-in_ok-policy-in-1120 : goal.returns-in_ok-policy-in-1120
returns-in_ok-policy-in-1120 c = rw c.in-1120.is (c.in_ok-policy-in-1120.ensures command.CreateServiceEdgeRouterPolicy)

pub returns-in_err-policy-in-1121 : goal.returns-in_err-policy-in-1121
returns-in_err-policy-in-1121 c =
    let p = err_from_is_err_and c.from_residual-in_err-policy-in-1121.result c.from_residual-in_err-policy-in-1121.ensures.1 in
    rw (p.1, p.2, c.in-1121.is) (c.in_err-policy-in-1121.ensures command.UpdateServiceEdgeRouterPolicy)

pub returns-in_ok-policy-in-1121 : goal.returns-in_ok-policy-in-1121
returns-in_ok-policy-in-1121 c = rw c.in-1121.is (c.in_ok-policy-in-1121.ensures command.UpdateServiceEdgeRouterPolicy)
