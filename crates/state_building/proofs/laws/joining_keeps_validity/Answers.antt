use Rattle.state_building.proofs.JoinedStates.{joined-valid}
use Rattle.state_building.proofs.ComingRows.{row-valid}
use Rattle.state_building.proofs.laws.joining_keeps_validity.Goals as goal

pub returns-clause-one : goal.returns-clause-one
returns-clause-one c = joined-valid

pub returns-clause-row : goal.returns-clause-row
returns-clause-row c = row-valid
