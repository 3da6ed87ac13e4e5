use Rattle.model_laws.proofs.DenialLaws.{first_rule-is}
use Rattle.model_laws.proofs.route_laws.the_denial.Goals as goal

pub returns : goal.returns
returns c = first_rule-is
