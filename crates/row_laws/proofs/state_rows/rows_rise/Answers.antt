use Rattle.row_laws.proofs.RisingStates.{Rises-rows_of}
use Rattle.row_laws.proofs.StateBatches.{spelled_rise}
use Rattle.row_laws.proofs.state_rows.rows_rise.Goals as goal

pub returns-clause-numbered : goal.returns-clause-numbered
returns-clause-numbered c = Rises-rows_of

pub returns-clause-spelled : goal.returns-clause-spelled
returns-clause-spelled c = spelled_rise
