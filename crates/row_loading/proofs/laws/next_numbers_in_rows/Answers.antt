use Rattle.row_loading.proofs.NextNumbersOfRows.{next_in-between}
use Rattle.row_loading.proofs.laws.next_numbers_in_rows.Goals as goal

pub returns-clause-first : goal.returns-clause-first
returns-clause-first c f rows k h = (next_in-between f rows k h).0

pub returns-clause-last : goal.returns-clause-last
returns-clause-last c f rows k h = (next_in-between f rows k h).1
