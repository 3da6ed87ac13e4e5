use Rattle.row_laws.proofs.WrittenRows.{count_most}
use Rattle.row_laws.proofs.state_rows.counts_are_few.Goals as goal

pub returns : goal.returns
returns c r s a b v = count_most r s v a b
