use Rattle.path_search.proofs.WorkedCosts.{row_least, blocked_row_least, blocked_row_no_path}
use Rattle.path_search.proofs.worked.least_costs_of_a_row.Goals as goal

pub returns-clause-all_through : goal.returns-clause-all_through
returns-clause-all_through c = row_least

pub returns-clause-middle_blocked : goal.returns-clause-middle_blocked
returns-clause-middle_blocked c = blocked_row_least

pub returns-clause-no_path : goal.returns-clause-no_path
returns-clause-no_path c = blocked_row_no_path
