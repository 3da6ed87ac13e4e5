use Rattle.std.proofs.Common.{rules}
use Rattle.journal_core.proofs.appending.put_down.Goals as goal

pub returns-clause-stable : goal.returns-clause-stable
returns-clause-stable g c = search rules
