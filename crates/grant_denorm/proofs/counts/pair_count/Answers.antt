use Rattle.std.proofs.Common.{sym, ◌∙◌}
use Rattle.grant_denorm.proofs.RowSteps.{row_count, no_pairs}
use Rattle.grant_denorm.proofs.counts.pair_count.Goals as goal

pub returns-in-Ok : goal.returns-in-Ok
returns-in-Ok c =
    c.count.ensures
    ∙ sym (row_count c.args.rows.now c.requires c.args.a c.in-Ok.at c.in-Ok.ensures.found c.index-rows-at.result c.index-rows-at.is c.args.b)

pub returns-in-Err : goal.returns-in-Err
returns-in-Err c = sym (no_pairs c.args.rows.now c.requires c.args.a c.in-Err.field-0 c.in-Err.ensures.absent c.args.b)
