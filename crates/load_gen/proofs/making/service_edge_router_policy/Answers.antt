use Rattle.std.proofs.Common.{codes, refl, arith}
use Rattle.load_gen.specs.LoadCommands.{numbered}
use Rattle.load_gen.proofs.SpelledLoads.{name_form, one_side, both_hold}
use Rattle.load_gen.proofs.making.service_edge_router_policy.Goals as goal

pub returns : goal.returns
returns c = record {
  drawn = rw (c.in_ok-name.ensures, c.with_attributes-service_roles.ensures, c.everything-router_roles.ensures, c.in_ok-left.ensures, c.draw-c.ensures.value) refl;
  generator = rw (c.draw-c.ensures.left) refl;
  spelled = rw (c.in_ok-name.ensures, c.with_attributes-service_roles.ensures, c.everything-router_roles.ensures, c.in_ok-left.ensures) (both_hold _ _ (name_form (codes "f") (c.args.i) refl (omega arith)) (both_hold _ _ (one_side (numbered (codes "c") c.draw-c.result) (name_form (codes "c") (c.draw-c.result) refl (omega arith)) refl) refl));
}
