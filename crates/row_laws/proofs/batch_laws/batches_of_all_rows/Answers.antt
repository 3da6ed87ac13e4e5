use Rattle.row_laws.proofs.StateBatches.{batch_from_start, batch_to_start}
use Rattle.row_laws.proofs.batch_laws.batches_of_all_rows.Goals as goal

pub returns-clause-puts : goal.returns-clause-puts
returns-clause-puts c = batch_from_start

pub returns-clause-deletes : goal.returns-clause-deletes
returns-clause-deletes c = batch_to_start
