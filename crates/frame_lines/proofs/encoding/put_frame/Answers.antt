use Rattle.std.proofs.Common.{rules}
use Rattle.frame_lines.proofs.encoding.put_frame.Goals as goal

pub returns-clause-next : goal.returns-clause-next
returns-clause-next c = search rules
