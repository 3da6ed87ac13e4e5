use Rattle.std.proofs.Common.{not, ◌∙◌, ap}
use Rattle.std.proofs.lemmas.Result.{IfOk-weaker}
use Rattle.std.specs.List.{filter}
use Rattle.circuit_settling.specs.OtherLinks.{keeps_at}
use Rattle.circuit_settling.proofs.GoingLaws.{going_are}
use Rattle.circuit_settling.proofs.settling.going_circuits.Goals as goal

pub returns : goal.returns
returns c =
    let k = c.args.circuits.now in
    let p = c.args.present.now in
    let g = c.args.grants.now in
    IfOk-weaker c.going_among.result _ _ (λ ns is.
    is ∙ ap (filter (λ n. not (keeps_at p g k.circuits.rows n))) c.in_ok-numbers.ensures.all ∙ going_are p g k.circuits.rows k.circuits.next c.in_ok-numbers.ensures.ordered)
    c.going_among.ensures
