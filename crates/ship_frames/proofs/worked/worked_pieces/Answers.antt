use Rattle.ship_frames.specs.WorkedPieces.{next_five}
use Rattle.ship_frames.proofs.PieceLaws.{two_pieces}
use Rattle.ship_frames.proofs.worked.worked_pieces.Goals as goal

pub returns-clause-two_frames : goal.returns-clause-two_frames
returns-clause-two_frames c = λ bytes e. two_pieces 4 (next_five bytes) e
