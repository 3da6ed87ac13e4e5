use Rattle.row_judging.proofs.SizedRows.{batch_most}
use Rattle.row_judging.proofs.laws.batches_of_states_are_bounded.Goals as goal

pub returns : goal.returns
returns c = batch_most
