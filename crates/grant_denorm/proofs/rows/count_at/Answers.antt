use Rattle.std.proofs.Common.{sym}
use Rattle.grant_denorm.proofs.FlatLaws.{value_found, value_absent}
use Rattle.grant_denorm.proofs.rows.count_at.Goals as goal

pub returns-in-Ok : goal.returns-in-Ok
returns-in-Ok c = sym (value_found 0 c.args.rights.now c.requires c.args.right c.in-Ok.at c.in-Ok.ensures.found)

pub returns-in-Err : goal.returns-in-Err
returns-in-Err c = sym (value_absent 0 c.args.rights.now c.args.right c.in-Err.field-0 c.in-Err.ensures.absent)
