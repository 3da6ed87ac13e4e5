use Rattle.std.proofs.Common.{◌∙◌, sym, ap}
use Rattle.role_expr.specs.RoleSides.{id_in}
use Rattle.role_expr.proofs.RepeatLaws.{with_name, repeats-at, repeats-past}
use Rattle.role_expr.proofs.RoleLaws.{id_in-none}
use Rattle.role_expr.proofs.sides.ids_of.Goals.{in-Id+in_ok-copy+in_ok-keep_name, in_default}
use Rattle.role_expr.proofs.sides.ids_of.Goals as goal

pub roles-preserved : goal.roles-preserved
roles-preserved c = elim c.match-role.branch [
  | in-Id+in_ok-copy+in_ok-keep_name w ↦ repeats-at id_in c.args.roles.now c.roles.role-index c.role-item.result c.roles.kept.items w.in-Id.name c.roles-test.true c.role-item.is c.roles.invariant (ap id_in w.in-Id.is)
      ∙ sym (ap (λ v. v.items) w.kept-is ∙ w.in_ok-keep_name.ensures.ok ∙ ap (λ n. with_name c.roles.kept.items n) w.in_ok-copy.ensures)
  | in_default w ↦ repeats-past id_in c.args.roles.now c.roles.role-index c.role-item.result c.roles.kept.items c.roles-test.true c.role-item.is c.roles.invariant (id_in-none c.role-item.result w.in_default.not-Id)
      ∙ sym (ap (λ v. v.items) w.kept-is)
]
