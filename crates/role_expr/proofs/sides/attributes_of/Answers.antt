use Rattle.std.proofs.Common.{◌∙◌, sym, ap}
use Rattle.role_expr.specs.RoleSides.{attribute_in}
use Rattle.role_expr.proofs.RepeatLaws.{with_name, repeats-at, repeats-past}
use Rattle.role_expr.proofs.RoleLaws.{attribute_in-none}
use Rattle.role_expr.proofs.sides.attributes_of.Goals.{in-Attribute+in_ok-copy+in_ok-keep_name, in_default}
use Rattle.role_expr.proofs.sides.attributes_of.Goals as goal

pub roles-preserved : goal.roles-preserved
roles-preserved c = elim c.match-role.branch [
  | in-Attribute+in_ok-copy+in_ok-keep_name w ↦ repeats-at attribute_in c.args.roles.now c.roles.role-index c.role-item.result c.roles.kept.items w.in-Attribute.name c.roles-test.true c.role-item.is c.roles.invariant (ap attribute_in w.in-Attribute.is)
      ∙ sym (ap (λ v. v.items) w.kept-is ∙ w.in_ok-keep_name.ensures.ok ∙ ap (λ n. with_name c.roles.kept.items n) w.in_ok-copy.ensures)
  | in_default w ↦ repeats-past attribute_in c.args.roles.now c.roles.role-index c.role-item.result c.roles.kept.items c.roles-test.true c.role-item.is c.roles.invariant (attribute_in-none c.role-item.result w.in_default.not-Attribute)
      ∙ sym (ap (λ v. v.items) w.kept-is)
]
