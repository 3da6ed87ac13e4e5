use Rattle.frame_lines.proofs.RoundLaws.{bytes_back}
use Rattle.frame_lines.proofs.laws.what_is_told_is_said_again.Goals as goal

pub returns : goal.returns
returns c = record { bytes = λ bytes fits none plain. (bytes_back bytes fits none plain).0; fault = λ bytes fits none plain. (bytes_back bytes fits none plain).1 }
