use Rattle.std.proofs.Common.{rules}
use Rattle.grant_rows.proofs.collecting.push_if_other.Goals as goal

pub returns-clause-changes : goal.returns-clause-changes
returns-clause-changes c = search rules
