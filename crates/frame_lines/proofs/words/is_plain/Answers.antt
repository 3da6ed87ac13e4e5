use Rattle.std.proofs.Common.{rules}
use Rattle.frame_lines.proofs.words.is_plain.Goals as goal

pub returns-else-word-eq1 : goal.returns-else-word-eq1
returns-else-word-eq1 c = search rules
