use Rattle.std.proofs.Common.{rules}
use Rattle.circuit_rules.proofs.tight.has_its_total.Goals as goal

pub returns : goal.returns
returns c = search rules
