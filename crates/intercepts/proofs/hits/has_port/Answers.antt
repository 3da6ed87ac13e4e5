use Rattle.std.proofs.Common.{rules}
use Rattle.intercepts.proofs.hits.has_port.Goals as goal

pub returns-then-from-port : goal.returns-then-from-port
returns-then-from-port c = search rules

pub returns-else-from-port : goal.returns-else-from-port
returns-else-from-port c = search rules
