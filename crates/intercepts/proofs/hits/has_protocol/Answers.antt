use Rattle.std.proofs.Common.{rules}
use Rattle.intercepts.proofs.hits.has_protocol.Goals as goal

pub returns-then-udp : goal.returns-then-udp
returns-then-udp c = search rules

pub returns-else-udp : goal.returns-else-udp
returns-else-udp c = search rules
