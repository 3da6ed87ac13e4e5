use Rattle.path_search.proofs.WorkedCosts.{square_first}
use Rattle.path_search.proofs.worked.lesser_links_first.Goals as goal

pub returns-clause-walk : goal.returns-clause-walk
returns-clause-walk c = square_first
