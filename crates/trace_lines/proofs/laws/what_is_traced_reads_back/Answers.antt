use Rattle.trace_lines.proofs.ReadBackLaws.{records_back}
use Rattle.trace_lines.proofs.laws.what_is_traced_reads_back.Goals as goal

pub returns : goal.returns
returns c = record { records = λ text. (records_back text).0; tail = λ text. (records_back text).1 }
