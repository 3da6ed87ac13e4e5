use Rattle.std.proofs.Common.{rules}
use Rattle.frame_lines.proofs.telling.piece_in.Goals as goal

pub returns-in-len3 : goal.returns-in-len3
returns-in-len3 c = search rules
