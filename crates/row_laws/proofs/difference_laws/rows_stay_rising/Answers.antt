use Rattle.row_laws.proofs.Differences.{Rises-with_batch}
use Rattle.row_laws.proofs.difference_laws.rows_stay_rising.Goals as goal

pub returns : goal.returns
returns g c R rows batch o a = Rises-with_batch o a rows batch
