use Rattle.model_laws.proofs.TouchedLaws.{answer-changes}
use Rattle.model_laws.proofs.state_laws.untouched_tables.Goals as goal

pub returns : goal.returns
returns c = answer-changes
