use Rattle.model_laws.proofs.CandidateLaws.{best-is, best-none}
use Rattle.model_laws.proofs.route_laws.the_best.Goals as goal

pub returns-clause-is : goal.returns-clause-is
returns-clause-is c = best-is

pub returns-clause-none : goal.returns-clause-none
returns-clause-none c = best-none
