use Rattle.std.proofs.Common.{refl}
use Rattle.load_gen.proofs.SpelledLoads.{cost_form, both_hold}
use Rattle.load_gen.proofs.making.terminator.Goals as goal

pub returns : goal.returns
returns c = record {
  drawn = rw (c.in_ok-service.ensures.value, c.in_ok-router.ensures.value, c.in_ok-instance.ensures, c.draw-cost.ensures.value, c.drawn_name-2.ensures.left, c.drawn_name.ensures.left) refl;
  generator = rw (c.draw-cost.ensures.left, c.drawn_name-2.ensures.left, c.drawn_name.ensures.left) refl;
  spelled = rw c.in_ok-instance.ensures (both_hold _ _ c.in_ok-service.ensures.form (both_hold _ _ c.in_ok-router.ensures.form (cost_form c.draw-cost.result c.draw-cost.ensures.below)));
}
