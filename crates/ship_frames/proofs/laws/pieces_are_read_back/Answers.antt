use Rattle.ship_frames.proofs.ReadingLaws.{piece_back, pieces_back}
use Rattle.ship_frames.proofs.laws.pieces_are_read_back.Goals as goal

pub returns : goal.returns
returns c = record { one = piece_back; all = pieces_back }
