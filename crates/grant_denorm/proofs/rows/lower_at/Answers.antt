use Rattle.std.proofs.Common.{sym, ◌∙◌, arith, subst}
use Rattle.grant_denorm.specs.FlatRows.{IsRow, LowersIn}
use Rattle.grant_denorm.proofs.RowSteps.{count_read, count_above, lowered_row, lowered_count, removed_row, removed_count}
use Rattle.grant_denorm.proofs.rows.lower_at.Goals as goal

pub returns-then-count-eq1-clause-row : goal.returns-then-count-eq1-clause-row
returns-then-count-eq1-clause-row c = subst IsRow (sym c.remove.ensures.items) (removed_row c.args.rights.now.items c.requires.row c.args.at c.requires.place.in_range)

pub returns-then-count-eq1-clause-lowers : goal.returns-then-count-eq1-clause-lowers
returns-then-count-eq1-clause-lowers c =
    let read = count_read c.args.rights.now.items c.requires.row c.args.right c.args.at c.requires.place c.index.result.now c.index.ensures in
    subst (λ xs. LowersIn c.args.rights.now.items xs c.args.right) (sym c.remove.ensures.items) (removed_count c.args.rights.now.items c.requires.row c.args.right c.args.at c.requires.place (read ∙ c.if-count-eq1.true))

pub overflow_sub-count : goal.overflow_sub-count
overflow_sub-count c =
    let read = count_read c.args.rights.now.items c.requires.row c.args.right c.args.at c.requires.place c.index.result.now c.index.ensures in
    let above = count_above c.args.rights.now.items c.requires.row c.args.right c.args.at c.requires.place in
    omega (arith, read, above)

pub returns-clause-row : goal.returns-clause-row
returns-clause-row c =
    let read = count_read c.args.rights.now.items c.requires.row c.args.right c.args.at c.requires.place c.index.result.now c.index.ensures in
    let above = count_above c.args.rights.now.items c.requires.row c.args.right c.args.at c.requires.place in
    let test = c.if-count-eq1.false in
    lowered_row c.args.rights.now.items c.requires.row c.args.right c.args.at _ c.requires.place (omega (arith, read, above, test))

pub returns-clause-lowers : goal.returns-clause-lowers
returns-clause-lowers c =
    let read = count_read c.args.rights.now.items c.requires.row c.args.right c.args.at c.requires.place c.index.result.now c.index.ensures in
    let above = count_above c.args.rights.now.items c.requires.row c.args.right c.args.at c.requires.place in
    lowered_count c.args.rights.now.items c.requires.row c.args.right c.args.at _ c.requires.place (omega (arith, read, above))
