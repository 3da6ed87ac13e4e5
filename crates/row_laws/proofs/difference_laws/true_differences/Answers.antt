use Rattle.row_laws.proofs.Differences.{true_says, true_from_says}
use Rattle.row_laws.proofs.difference_laws.true_differences.Goals as goal

pub returns-clause-says : goal.returns-clause-says
returns-clause-says g c R rows batch o a = true_says o a rows batch

pub returns-clause-suffices : goal.returns-clause-suffices
returns-clause-suffices g c R rows batch o a = true_from_says o a rows batch
