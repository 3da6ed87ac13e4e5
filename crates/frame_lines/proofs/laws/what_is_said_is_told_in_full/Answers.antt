use Rattle.frame_lines.proofs.FullLaws.{lines_back}
use Rattle.frame_lines.proofs.laws.what_is_said_is_told_in_full.Goals as goal

pub returns : goal.returns
returns c = record { text = λ text told. (lines_back text told).0; fault = λ text told. (lines_back text told).1 }
