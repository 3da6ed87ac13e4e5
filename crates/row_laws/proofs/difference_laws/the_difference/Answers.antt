use Rattle.row_laws.proofs.Differences.{difference_is, difference_only}
use Rattle.row_laws.proofs.difference_laws.the_difference.Goals as goal

pub returns-clause-is_one : goal.returns-clause-is_one
returns-clause-is_one g c R old new o a = difference_is o a old new

pub returns-clause-only : goal.returns-clause-only
returns-clause-only g c R old new batch o a = difference_only o a old new batch
