use Rattle.std.proofs.Common.{rules}
use Rattle.slot_files.proofs.standing.slot_of.Goals as goal

pub returns-then-mark-eq0 : goal.returns-then-mark-eq0
returns-then-mark-eq0 c = search rules
