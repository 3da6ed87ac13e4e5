use Rattle.row_laws.proofs.Differences.{difference-same, same_from_difference}
use Rattle.row_laws.proofs.difference_laws.no_difference.Goals as goal

pub returns-clause-same : goal.returns-clause-same
returns-clause-same g c R rows o a = difference-same o a rows

pub returns-clause-back : goal.returns-clause-back
returns-clause-back g c R old new o a = same_from_difference o a old new
