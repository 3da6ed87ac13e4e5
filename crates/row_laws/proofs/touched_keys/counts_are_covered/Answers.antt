use Rattle.row_laws.proofs.TouchedKeys.{Covers-counts}
use Rattle.row_laws.proofs.touched_keys.counts_are_covered.Goals as goal

pub returns : goal.returns
returns c = Covers-counts
