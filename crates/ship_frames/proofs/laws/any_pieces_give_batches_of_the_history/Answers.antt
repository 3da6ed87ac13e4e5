use Rattle.ship_frames.proofs.GatheringLaws.{gathered_all_of}
use Rattle.ship_frames.proofs.laws.any_pieces_give_batches_of_the_history.Goals as goal

pub returns : goal.returns
returns c = record {
  batches = λ history parts pieces front are. (gathered_all_of history parts pieces front are).0;
  parts = λ history parts pieces front are. (gathered_all_of history parts pieces front are).1;
}
