use Rattle.row_laws.proofs.TouchedKeys.{Covers-next}
use Rattle.row_laws.proofs.touched_keys.next_numbers_are_covered.Goals as goal

pub returns : goal.returns
returns c = Covers-next
