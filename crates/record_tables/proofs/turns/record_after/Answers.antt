use Rattle.std.proofs.Common.{sym, ◌∙◌, ap, ap₂}
use Rattle.record_tables.specs.AfterChange.{unless_gone}
use Rattle.record_tables.specs.Turns.{record_turned, turned_table}
use Rattle.record_tables.proofs.TurnLaws.{at-turned, at-unless}
use Rattle.record_tables.proofs.turns.record_after.Goals as goal

pub returns : goal.returns
returns g c = λ t next ordered present.
    let k = g.C.RecordChange in
    let set = k.set c.args.change in
    let turn = k.turn c.args.change in
    c.unless_gone.ensures ∙ ap (unless_gone c.args.number c.args.gone.now)
    (c.record_turned.ensures ∙ ap₂ (λ m o. record_turned set turn m c.args.number o) (sym next) present
    ∙ at-turned set turn t c.args.number ordered)
    ∙ at-unless c.args.gone.now (turned_table set turn t) c.args.number
