use Rattle.std.proofs.Common.{arith}
use Rattle.grant_denorm.proofs.RowSteps.{count_read, raised_row, raised_count}
use Rattle.grant_denorm.proofs.rows.raise_at.Goals as goal

pub overflow_add-count : goal.overflow_add-count
overflow_add-count c =
    let read = count_read c.args.rights.now.items c.requires.row c.args.right c.args.at c.requires.place c.index.result.now c.index.ensures in
    let room = c.requires.room in
    omega (arith, read, room)

pub returns-clause-row : goal.returns-clause-row
returns-clause-row c =
    let read = count_read c.args.rights.now.items c.requires.row c.args.right c.args.at c.requires.place c.index.result.now c.index.ensures in
    raised_row c.args.rights.now.items c.requires.row c.args.right c.args.at _ c.requires.place (omega (arith, read))

pub returns-clause-raises : goal.returns-clause-raises
returns-clause-raises c =
    let read = count_read c.args.rights.now.items c.requires.row c.args.right c.args.at c.requires.place c.index.result.now c.index.ensures in
    raised_count c.args.rights.now.items c.requires.row c.args.right c.args.at _ c.requires.place (omega (arith, read))
