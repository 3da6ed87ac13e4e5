use Rattle.std.proofs.Common.{rules}
use Rattle.intercepts.proofs.store.clashes_with.Goals as goal

pub returns-then-other-service : goal.returns-then-other-service
returns-then-other-service c = search rules
