use Rattle.ship_frames.specs.Pieces.{piece_count}
use Rattle.ship_frames.proofs.PieceLaws.{bodies, frames_count, piece_len, piece_most, whole_len}
use Rattle.ship_frames.proofs.laws.pieces_make_the_batch.Goals as goal

pub returns : goal.returns
returns c = record {
  joined = bodies;
  count = λ place s. frames_count place s 0 (piece_count s.bytes);
  some = piece_len;
  most = piece_most;
  whole = whole_len;
}
