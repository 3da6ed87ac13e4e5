use Rattle.grant_moves.proofs.SideRows.{left_row_at, right_row_at}
use Rattle.grant_moves.proofs.laws.rows_of_two_sides.Goals as goal

pub returns-clause-left : goal.returns-clause-left
returns-clause-left c = left_row_at

pub returns-clause-right : goal.returns-clause-right
returns-clause-right c = right_row_at
