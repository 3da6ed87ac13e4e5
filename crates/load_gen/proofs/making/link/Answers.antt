use Rattle.std.proofs.Common.{◌+◌, codes, refl, arith}
use Rattle.load_gen.proofs.SpelledLoads.{name_form, link_cost_form, both_hold}
use Rattle.load_gen.proofs.making.link.Goals as goal

pub returns : goal.returns
returns c = record {
  drawn = rw (c.in_ok-name.ensures, c.in_ok-a.ensures, c.in_ok-b.ensures, c.draw-cost.ensures.value, c.draw-second.ensures.value, c.draw-first.ensures.value, c.draw-second.ensures.left, c.draw-first.ensures.left) refl;
  generator = rw (c.draw-cost.ensures.left, c.draw-second.ensures.left, c.draw-first.ensures.left) refl;
  spelled = rw (c.in_ok-name.ensures, c.in_ok-a.ensures, c.in_ok-b.ensures) (both_hold _ _ (name_form (codes "l") (c.args.i) refl (omega arith)) (both_hold _ _ (name_form (codes "r") (1 + c.draw-first.result) refl (omega arith)) (both_hold _ _ (name_form (codes "r") (1 + c.draw-second.result) refl (omega arith)) (both_hold _ _ (link_cost_form c.draw-cost.result c.draw-cost.ensures.below) refl))));
}
