use Rattle.intercept_commands.proofs.RowLaws.{claim_seen}
use Rattle.intercept_commands.proofs.rows.row_change.Goals as goal

pub claim_change-requires-clause-before : goal.claim_change-requires-clause-before
claim_change-requires-clause-before c = claim_seen c.args.intercepts.now _ c.get-before.result c.requires.before c.get-before.ensures
