use Rattle.std.proofs.Common.{rules}
use Rattle.grant_rows.proofs.stepping.step_count.Goals as goal

pub returns-then-up : goal.returns-then-up
returns-then-up c = search rules
