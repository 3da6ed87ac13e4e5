use Rattle.std.proofs.lemmas.Result.{err_from_is_err_and}
use Rattle.role_expr.proofs.RoleLaws.{bad_for_memory, bad_for_none}
use Rattle.role_expr.proofs.roles.read_role.Goals as goal

pub returns-in_err-role_in-clause-bad : goal.returns-in_err-role_in-clause-bad
returns-in_err-role_in-clause-bad c =
    bad_for_memory c.args.bytes.now c.from_residual.result (err_from_is_err_and c.from_residual.result c.from_residual.ensures.1) c.in_err-role_in.ensures.memory

pub returns-clause-bad : goal.returns-clause-bad
returns-clause-bad c = bad_for_none c.args.bytes.now c.in_ok-role_in.field-0 c.ok_or.result c.in_ok-role_in.ensures.role c.ok_or.ensures.value
