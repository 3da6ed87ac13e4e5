use Rattle.std.proofs.Common.{◌≡◌, ◌++◌, take}
use Rattle.grant_denorm.specs.Steps.{steps_of_row}
use Rattle.grant_denorm.proofs.deltas.push_row.Given as goal

abbrev pub invariant-rights : goal.invariant-rights
invariant-rights l = l.deltas.items ≡ l.fn.deltas.items ++ steps_of_row l.up (take l.right-index l.rights) l.a
