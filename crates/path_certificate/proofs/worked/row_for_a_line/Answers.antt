use Rattle.path_certificate.proofs.WorkedRows.{row_is, row_mirrors_line}
use Rattle.path_certificate.proofs.worked.row_for_a_line.Goals as goal

pub returns-clause-graph : goal.returns-clause-graph
returns-clause-graph c = row_is

pub returns-clause-same_hops : goal.returns-clause-same_hops
returns-clause-same_hops c = row_mirrors_line
