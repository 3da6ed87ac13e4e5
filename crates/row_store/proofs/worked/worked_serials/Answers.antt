use Rattle.row_store.proofs.WorkedLaws.{from_none, next_serial, passes_over, stays_same, second_batch}
use Rattle.row_store.proofs.worked.worked_serials.Goals as goal

pub returns-clause-from_none : goal.returns-clause-from_none
returns-clause-from_none c = from_none

pub returns-clause-rises : goal.returns-clause-rises
returns-clause-rises c = next_serial

pub returns-clause-passes_over : goal.returns-clause-passes_over
returns-clause-passes_over c = passes_over

pub returns-clause-stays : goal.returns-clause-stays
returns-clause-stays c = stays_same

pub returns-clause-second_batch : goal.returns-clause-second_batch
returns-clause-second_batch c = second_batch
