use Rattle.std.proofs.Common.{Option, ap}
use Rattle.std.specs.Option.{option_map_or}
use Rattle.ship_frames.specs.GatheredPieces.{gather}
use Rattle.ship_frames.specs.PieceReading.{BatchPiece}
use Rattle.ship_frames.proofs.ReadingLaws.{first_read}
use Rattle.follow_core.specs.declared.taken.Taken.TheVariants.{BadShip}
use Rattle.follow_core.specs.Following.{gathered_so, with_parts}
use Rattle.follow_core.specs.WorkedCopies.{roomy, copy_of_ann}
use Rattle.follow_core.proofs.worked.worked_frames.Goals as goal

pub returns-clause-first : goal.returns-clause-first
returns-clause-first c = λ body e.
    ap (λ (o : Option BatchPiece). option_map_or (λ p. gathered_so roomy (gather copy_of_ann.parts p).0 (with_parts copy_of_ann (gather copy_of_ann.parts p).1)) o (BadShip, copy_of_ann))
    (first_read body e)
