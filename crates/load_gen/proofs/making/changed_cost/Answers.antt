use Rattle.std.proofs.Common.{refl}
use Rattle.load_gen.proofs.SpelledLoads.{link_cost_form, both_hold}
use Rattle.load_gen.proofs.making.changed_cost.Goals as goal

pub returns : goal.returns
returns c = record {
  drawn = rw (c.in_ok-link.ensures.value, c.draw-cost.ensures.value, c.drawn_name.ensures.left) refl;
  generator = rw (c.draw-cost.ensures.left, c.drawn_name.ensures.left) refl;
  spelled = both_hold _ _ c.in_ok-link.ensures.form (link_cost_form c.draw-cost.result c.draw-cost.ensures.below);
}
