use Rattle.std.proofs.Common.{arith}
use Rattle.row_laws.proofs.worked.worked_keys.Goals as goal

pub returns-clause-climb : goal.returns-clause-climb
returns-clause-climb c = ((omega arith, (omega arith, tt)), ((omega arith, tt), (tt, tt)))

pub returns-clause-level : goal.returns-clause-level
returns-clause-level c d = let less = d.1.0.0 in absurd (omega arith)
