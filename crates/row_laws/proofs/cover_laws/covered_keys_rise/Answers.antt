use Rattle.row_laws.proofs.Covers.{Covers-rises, Covers-batch_rises}
use Rattle.row_laws.proofs.cover_laws.covered_keys_rise.Goals as goal

pub returns-clause-changes : goal.returns-clause-changes
returns-clause-changes c = Covers-rises

pub returns-clause-batch : goal.returns-clause-batch
returns-clause-batch c = Covers-batch_rises
