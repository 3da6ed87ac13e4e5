use Rattle.std.proofs.Common.{rules}
use Rattle.frame_lines.proofs.telling.reply_in.Goals as goal

pub returns-in-len2 : goal.returns-in-len2
returns-in-len2 c = search rules
