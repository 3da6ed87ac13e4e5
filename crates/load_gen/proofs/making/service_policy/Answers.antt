use Rattle.std.proofs.Common.{codes, refl, arith}
use Rattle.load_gen.specs.LoadCommands.{numbered}
use Rattle.load_gen.proofs.SpelledLoads.{name_form, one_side, two_side, relation_form, both_hold}
use Rattle.load_gen.proofs.making.service_policy.Goals as goal

pub returns : goal.returns
returns c = record {
  drawn = rw (c.in_ok-name.ensures, c.relation_of.ensures, c.semantic_of.ensures, c.with_attributes-identity_roles.ensures, c.with_attributes-service_roles.ensures, c.in_ok-left.ensures, c.in_ok-right.ensures, c.draw-c.ensures.value, c.draw-h.ensures.value, c.draw-g.ensures.value, c.draw-semantic.ensures.value, c.draw-relation.ensures.value, c.draw-h.ensures.left, c.draw-g.ensures.left, c.draw-semantic.ensures.left, c.draw-relation.ensures.left) refl;
  generator = rw (c.draw-c.ensures.left, c.draw-h.ensures.left, c.draw-g.ensures.left, c.draw-semantic.ensures.left, c.draw-relation.ensures.left) refl;
  spelled = rw (c.in_ok-name.ensures, c.relation_of.ensures, c.with_attributes-identity_roles.ensures, c.with_attributes-service_roles.ensures, c.in_ok-left.ensures, c.in_ok-right.ensures) (both_hold _ _ (name_form (codes "d") (c.args.i) refl (omega arith)) (both_hold _ _ (relation_form c.draw-relation.result) (both_hold _ _ (two_side c.draw-g.result c.draw-h.result (omega arith) (omega arith)) (one_side (numbered (codes "c") c.draw-c.result) (name_form (codes "c") (c.draw-c.result) refl (omega arith)) refl))));
}
