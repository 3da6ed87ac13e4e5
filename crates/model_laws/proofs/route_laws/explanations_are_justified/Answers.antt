use Rattle.model_laws.proofs.ExplanationLaws.{best-justified, valid-justified}
use Rattle.model_laws.proofs.route_laws.explanations_are_justified.Goals as goal

pub returns-clause-apart : goal.returns-clause-apart
returns-clause-apart c = best-justified

pub returns-clause-valid : goal.returns-clause-valid
returns-clause-valid c = valid-justified
