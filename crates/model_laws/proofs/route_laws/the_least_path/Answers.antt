use Rattle.model_laws.proofs.LeastPathLaws.{least_path-is, least_path-none}
use Rattle.model_laws.proofs.route_laws.the_least_path.Goals as goal

pub returns-clause-is : goal.returns-clause-is
returns-clause-is c = least_path-is

pub returns-clause-none : goal.returns-clause-none
returns-clause-none c = least_path-none
