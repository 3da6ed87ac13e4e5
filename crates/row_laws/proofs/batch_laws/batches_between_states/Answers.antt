use Rattle.row_laws.proofs.BatchForms.{IsBatch-between}
use Rattle.row_laws.proofs.batch_laws.batches_between_states.Goals as goal

pub returns : goal.returns
returns c = IsBatch-between
