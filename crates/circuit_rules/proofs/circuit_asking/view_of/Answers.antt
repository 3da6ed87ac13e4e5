use Rattle.std.proofs.Common.{rules}
use Rattle.circuit_rules.proofs.circuit_asking.view_of.Goals as goal

pub returns-clause-network : goal.returns-clause-network
returns-clause-network c = search rules
