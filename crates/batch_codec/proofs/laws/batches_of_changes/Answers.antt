use Rattle.row_codec.proofs.BatchLaws.{batch_rises}
use Rattle.batch_codec.proofs.laws.batches_of_changes.Goals as goal

pub returns : goal.returns
returns c = λ changes rises fits. record { rises = batch_rises changes rises; fits = fits }
