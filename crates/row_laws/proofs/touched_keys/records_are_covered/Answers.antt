use Rattle.row_laws.proofs.TouchedKeys.{Covers-records}
use Rattle.row_laws.proofs.touched_keys.records_are_covered.Goals as goal

pub returns : goal.returns
returns c = Covers-records
