use Rattle.row_laws.proofs.StateBatches.{entries_between, batch_leads}
use Rattle.row_laws.proofs.batch_laws.batches_of_spelled_rows.Goals as goal

pub returns-clause-difference : goal.returns-clause-difference
returns-clause-difference c = entries_between

pub returns-clause-leads : goal.returns-clause-leads
returns-clause-leads c = batch_leads
