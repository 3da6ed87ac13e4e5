use Rattle.std.proofs.Common.{rules}
use Rattle.circuits.proofs.applying.apply_circuit_change.Goals as goal

pub returns-in-Remove-clause-ok : goal.returns-in-Remove-clause-ok
returns-in-Remove-clause-ok c = search rules
