use Rattle.std.proofs.Common.{◌≡◌, Ok, sym, ap, ◌∙◌}
use Rattle.std.proofs.lemmas.Result.{IfOk-weaker}
use Rattle.command_codec.specs.BodyMeaning.{meaning}
use Rattle.change_plans.proofs.CarriedLaws.{answered_command}
use Rattle.change_plans.proofs.carrying.answer_line.Goals as goal

pub returns-in-Ok-clause-answered : goal.returns-in-Ok-clause-answered
returns-in-Ok-clause-answered c =
    let is : meaning c.args.line.now.content c.args.line.now.body ≡ Ok c.in-Ok.command =
    ap (meaning c.args.line.now.content) (sym c.as_slice.ensures) ∙ c.in-Ok.ensures.command in
    IfOk-weaker c.carry-answered.result _ _
    (λ r h. answered_command c.in-Ok.command (meaning c.args.line.now.content c.args.line.now.body) c.args.core.now.state c.carry-answered.new.core.state r is h)
    c.carry-answered.ensures.answered
