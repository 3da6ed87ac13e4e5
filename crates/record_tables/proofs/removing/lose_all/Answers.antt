use Rattle.std.proofs.Common.{get_or, take, sym, ◌∙◌, ap}
use Rattle.std.proofs.lemmas.List.{take_all, take_more}
use Rattle.ctrl_model.specs.Numbered.{with_removed}
use Rattle.record_tables.specs.AfterChange.{without_numbers}
use Rattle.record_tables.proofs.GoneLaws.{gone_none, gone_more}
use Rattle.record_tables.proofs.removing.lose_all.Goals as goal

pub numbers-init : goal.numbers-init
numbers-init g c = gone_none (g.T.Losing.table c.args.table.now)

pub numbers-preserved : goal.numbers-preserved
numbers-preserved g c =
    let ns = c.args.gone.now in
    let i = c.numbers.number-index in
    let table = g.T.Losing.table c.args.table.now in
    c.lose.ensures ∙ ap (with_removed (get_or ns i 0)) c.numbers.invariant ∙ gone_more table (take i ns) (get_or ns i 0)
    ∙ ap (λ ms. without_numbers ms table) (sym (take_more ns i 0 c.numbers-test.true))

pub returns : goal.returns
returns g c = c.numbers.invariant ∙ ap (λ ms. without_numbers ms (g.T.Losing.table c.args.table.now)) (take_all c.numbers.number-index c.args.gone.now c.numbers-test.false)
