use Rattle.model_laws.proofs.RuleLaws.{first_rule-none}
use Rattle.model_laws.proofs.route_laws.the_rule.Goals as goal

pub returns : goal.returns
returns c = first_rule-none
