use Rattle.std.proofs.Common.{codes, refl, sym, ap, ◌∙◌, arith}
use Rattle.std.proofs.lemmas.Result.{on_ok_weaker}
use Rattle.ctrl_model.specs.NameForm.{is_name}
use Rattle.load_gen.proofs.SpelledLoads.{name_form}
use Rattle.load_gen.proofs.making.push_connected_router.Goals as goal

pub push-requires : goal.push-requires
push-requires c =
    ap is_name c.in_ok-name.ensures ∙ (name_form (codes "r") (c.args.i) refl (omega arith))

pub returns : goal.returns
returns c = on_ok_weaker c.push.result (λ p. rw (sym c.in_ok-name.ensures) p) c.push.ensures
