use Rattle.std.proofs.Common.{rules}
use Rattle.access_rules.proofs.permits.permitted.Goals as goal

pub returns-in-Admin : goal.returns-in-Admin
returns-in-Admin c = search rules
