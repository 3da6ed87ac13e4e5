use Rattle.std.proofs.Common.{◌&&◌, codes, refl, sym, ap₂, ◌∙◌, arith}
use Rattle.std.proofs.lemmas.Result.{on_ok_weaker}
use Rattle.ctrl_model.specs.NameForm.{is_name}
use Rattle.ctrl_model.specs.ValueForms.{are_attributes, is_cost}
use Rattle.load_gen.specs.LoadCommands.{numbered}
use Rattle.load_gen.proofs.SpelledLoads.{name_form, cost_form, one_form, both_hold}
use Rattle.load_gen.proofs.making.push_made_router.Goals as goal

pub push-requires : goal.push-requires
push-requires c =
    ap₂ (λ n names. is_name n && (are_attributes names && is_cost c.args.cost)) c.in_ok-name.ensures c.in_ok-attributes.ensures ∙ both_hold _ _ (name_form (codes "r") (c.args.i) refl (omega arith)) (both_hold _ _ (one_form (numbered (codes "e") c.args.e) (name_form (codes "e") (c.args.e) refl (omega arith))) (cost_form c.args.cost (omega (arith, c.requires))))

pub returns : goal.returns
returns c = on_ok_weaker c.push.result (λ p. rw (sym c.in_ok-name.ensures, sym c.in_ok-attributes.ensures) p) c.push.ensures
