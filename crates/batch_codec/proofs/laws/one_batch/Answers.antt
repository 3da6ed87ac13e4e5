use Rattle.row_codec.proofs.BatchLaws as batches
use Rattle.batch_codec.proofs.laws.one_batch.Goals as goal

pub returns : goal.returns
returns c = batches.one_batch
