use Rattle.row_laws.proofs.StateBatches.{batch_between-same, same_from_batch, batch_is_true}
use Rattle.row_laws.proofs.batch_laws.empty_batches.Goals as goal

pub returns-clause-same : goal.returns-clause-same
returns-clause-same c = batch_between-same

pub returns-clause-back : goal.returns-clause-back
returns-clause-back c = same_from_batch

pub returns-clause-others : goal.returns-clause-others
returns-clause-others c = batch_is_true
