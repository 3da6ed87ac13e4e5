use Rattle.std.proofs.Common.{rules}
use Rattle.circuit_rules.proofs.beating.is_no_better.Goals as goal

pub returns-then-own-place : goal.returns-then-own-place
returns-then-own-place c = search rules
