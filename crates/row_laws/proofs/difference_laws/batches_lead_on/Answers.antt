use Rattle.row_laws.proofs.Differences.{with_batch-difference}
use Rattle.row_laws.proofs.difference_laws.batches_lead_on.Goals as goal

pub returns : goal.returns
returns g c R old new o a = with_batch-difference o a old new
