use Rattle.model_laws.proofs.CountedLaws.{counted-same, counted-another}
use Rattle.model_laws.proofs.state_laws.changes_are_counted.Goals as goal

pub returns-clause-same : goal.returns-clause-same
returns-clause-same c = counted-same

pub returns-clause-another : goal.returns-clause-another
returns-clause-another c = counted-another
