use Rattle.std.proofs.Common.{sym, ap, ◌∙◌}
use Rattle.role_expr.specs.ReadRoles.{role_in}
use Rattle.role_expr.proofs.RoleLaws.{read_again, reads}
use Rattle.role_expr.proofs.laws.roles_are_read_by_their_spelling.Goals as goal

pub returns : goal.returns
returns c = λ bytes r. (reads bytes r, λ p. ap role_in (sym p.1) ∙ read_again r p.0)
