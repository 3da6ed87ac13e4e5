use Rattle.std.proofs.Common.{refl, ap, ◌∙◌, arith}
use Rattle.ctrl_model.specs.ValueForms.{are_attributes}
use Rattle.load_gen.proofs.SpelledLoads.{two_form, both_hold}
use Rattle.load_gen.proofs.making.changed_identity.Goals as goal

pub returns : goal.returns
returns c = record {
  drawn = rw (c.in_ok-name.ensures.value, c.in_ok-attributes.ensures, c.draw-h.ensures.value, c.draw-g.ensures.value, c.draw-g.ensures.left, c.drawn_name.ensures.left) refl;
  generator = rw (c.draw-h.ensures.left, c.draw-g.ensures.left, c.drawn_name.ensures.left) refl;
  spelled = both_hold _ _ c.in_ok-name.ensures.form (ap are_attributes c.in_ok-attributes.ensures ∙ two_form c.draw-g.result c.draw-h.result (omega arith) (omega arith));
}
