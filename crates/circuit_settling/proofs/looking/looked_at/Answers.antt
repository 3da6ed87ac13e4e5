use Rattle.std.proofs.Common.{◌∙◌}
use Rattle.std.proofs.lemmas.Result.{IfOk-weaker}
use Rattle.circuit_settling.proofs.GoingLaws.{looked_are}
use Rattle.circuit_settling.proofs.looking.looked_at.Goals as goal

pub returns : goal.returns
returns c =
    let made = c.looked_among.ensures in
    IfOk-weaker c.looked_among.result _ _
    (λ ns e. e ∙ looked_are c.args.pairs.now c.args.terminators.now.terminators.rows c.args.pathless.now c.args.circuits.now.circuits.rows c.args.circuits.now.circuits.next made.keeps.ordered)
    made.looked
