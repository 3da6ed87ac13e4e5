use Rattle.std.proofs.Common.{◌&&◌, codes, refl, ap₂, ◌∙◌, arith}
use Rattle.ctrl_model.specs.NameForm.{is_name}
use Rattle.ctrl_model.specs.ValueForms.{are_attributes}
use Rattle.load_gen.specs.LoadCommands.{numbered}
use Rattle.load_gen.proofs.SpelledLoads.{name_form, one_form, both_hold}
use Rattle.load_gen.proofs.making.service.Goals as goal

pub returns : goal.returns
returns c = record {
  drawn = rw (c.in_ok-name.ensures, c.in_ok-attributes.ensures, c.draw-c.ensures.value) refl;
  generator = rw (c.draw-c.ensures.left) refl;
  spelled = ap₂ (λ n names. is_name n && are_attributes names) c.in_ok-name.ensures c.in_ok-attributes.ensures ∙ both_hold _ _ (name_form (codes "s") (c.args.i) refl (omega arith)) (one_form (numbered (codes "c") c.draw-c.result) (name_form (codes "c") (c.draw-c.result) refl (omega arith)));
}
