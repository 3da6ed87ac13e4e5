use Rattle.state_building.proofs.SkippedStates.{skipped-valid}
use Rattle.state_building.proofs.laws.skipping_keeps_validity.Goals as goal

pub returns-clause-valid : goal.returns-clause-valid
returns-clause-valid c = skipped-valid
