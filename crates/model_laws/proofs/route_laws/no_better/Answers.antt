use Rattle.model_laws.proofs.ClaimLaws.{no_better_than, valid-no_better}
use Rattle.model_laws.proofs.route_laws.no_better.Goals as goal

pub returns-clause-small : goal.returns-clause-small
returns-clause-small c = no_better_than

pub returns-clause-valid : goal.returns-clause-valid
returns-clause-valid c = valid-no_better
