use Rattle.std.proofs.Common.{sym, subst}
use Rattle.grant_denorm.specs.FlatRows.{IsRow, RaisesIn}
use Rattle.grant_denorm.proofs.RowSteps.{put_row, put_count}
use Rattle.grant_denorm.proofs.rows.put_at.Goals as goal

pub returns-clause-row : goal.returns-clause-row
returns-clause-row c =
    subst IsRow (sym c.in_ok-insert.ensures.items) (put_row c.args.rights.now.items c.requires.row c.args.right c.args.at c.requires.place)

pub returns-clause-ok : goal.returns-clause-ok
returns-clause-ok c =
    subst (λ xs. RaisesIn c.args.rights.now.items xs c.args.right) (sym c.in_ok-insert.ensures.items) (put_count c.args.rights.now.items c.args.right c.args.at c.requires.place)
