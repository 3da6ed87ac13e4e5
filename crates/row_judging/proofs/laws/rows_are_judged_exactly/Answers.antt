use Rattle.row_judging.proofs.JudgedStates.{judges}
use Rattle.row_judging.proofs.laws.rows_are_judged_exactly.Goals as goal

pub returns : goal.returns
returns c = judges
