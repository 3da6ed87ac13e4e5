use Rattle.std.proofs.Common.{◌+◌, ◌∙◌, ap, arith}
use Rattle.std.proofs.lemmas.Result.{IfOk-weaker}
use Rattle.ctrl_model.specs.NameForm.{is_name}
use Rattle.load_gen.specs.LoadCommands.{numbered}
use Rattle.load_gen.proofs.SpelledLoads.{name_form}
use Rattle.load_gen.proofs.drawing.drawn_name.Goals as goal

pub returns-clause-value : goal.returns-clause-value
returns-clause-value c = IfOk-weaker c.numbered.result _ _ (λ name is. is ∙ ap (λ n. numbered c.args.letter.now (1 + n)) c.draw-number.ensures.value) c.numbered.ensures

pub returns-clause-form : goal.returns-clause-form
returns-clause-form c =
    IfOk-weaker c.numbered.result _ _ (λ name is. ap is_name is ∙ name_form c.args.letter.now (1 + c.draw-number.result) c.requires.letter (omega arith)) c.numbered.ensures
