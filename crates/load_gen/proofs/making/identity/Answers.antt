use Rattle.std.proofs.Common.{◌&&◌, codes, refl, ap₂, ◌∙◌, arith}
use Rattle.ctrl_model.specs.NameForm.{is_name}
use Rattle.ctrl_model.specs.ValueForms.{are_attributes}
use Rattle.load_gen.proofs.SpelledLoads.{name_form, two_form, both_hold}
use Rattle.load_gen.proofs.making.identity.Goals as goal

pub returns : goal.returns
returns c = record {
  drawn = rw (c.in_ok-name.ensures, c.in_ok-attributes.ensures, c.draw-h.ensures.value, c.draw-g.ensures.value, c.draw-g.ensures.left) refl;
  generator = rw (c.draw-h.ensures.left, c.draw-g.ensures.left) refl;
  spelled = ap₂ (λ n names. is_name n && are_attributes names) c.in_ok-name.ensures c.in_ok-attributes.ensures ∙ both_hold _ _ (name_form (codes "u") (c.args.i) refl (omega arith)) (two_form c.draw-g.result c.draw-h.result (omega arith) (omega arith));
}
