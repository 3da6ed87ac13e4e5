use Rattle.ctrl_model.specs.State.{start}
use Rattle.row_loading.proofs.ToldCounts.{told}
use Rattle.row_loading.proofs.told_counts.told_counts_are_those_of_the_state.Goals as goal

pub returns : goal.returns
returns c f nexts ops rows r a b loads flawless h = told f nexts rows start r a b loads.rises flawless h
