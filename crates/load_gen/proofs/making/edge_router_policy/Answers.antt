use Rattle.std.proofs.Common.{codes, refl, arith}
use Rattle.load_gen.specs.LoadCommands.{numbered}
use Rattle.load_gen.proofs.SpelledLoads.{name_form, one_side, both_hold}
use Rattle.load_gen.proofs.making.edge_router_policy.Goals as goal

pub returns : goal.returns
returns c = record {
  drawn = rw (c.in_ok-name.ensures, c.with_attributes-identity_roles.ensures, c.with_attributes-router_roles.ensures, c.in_ok-left.ensures, c.in_ok-right.ensures, c.draw-e.ensures.value, c.draw-g.ensures.value, c.draw-g.ensures.left) refl;
  generator = rw (c.draw-e.ensures.left, c.draw-g.ensures.left) refl;
  spelled = rw (c.in_ok-name.ensures, c.with_attributes-identity_roles.ensures, c.with_attributes-router_roles.ensures, c.in_ok-left.ensures, c.in_ok-right.ensures) (both_hold _ _ (name_form (codes "e") (c.args.i) refl (omega arith)) (both_hold _ _ (one_side (numbered (codes "g") c.draw-g.result) (name_form (codes "g") (c.draw-g.result) refl (omega arith)) refl) (one_side (numbered (codes "e") c.draw-e.result) (name_form (codes "e") (c.draw-e.result) refl (omega arith)) refl)));
}
