use Rattle.ship_frames.proofs.GatheringLaws.{batch_told}
use Rattle.ship_frames.proofs.laws.pieces_in_order_give_the_batch.Goals as goal

pub returns : goal.returns
returns c = record {
  gathered = λ parts s some. (batch_told parts s some).0;
  none = λ parts s some. (batch_told parts s some).1;
}
