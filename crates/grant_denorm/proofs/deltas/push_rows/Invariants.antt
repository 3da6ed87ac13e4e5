use Rattle.std.proofs.Common.{◌≡◌, ◌++◌, take}
use Rattle.grant_denorm.specs.Steps.{steps_of_rows}
use Rattle.grant_denorm.proofs.deltas.push_rows.Given as goal

abbrev pub invariant-lefts : goal.invariant-lefts
invariant-lefts l = l.deltas.items ≡ l.fn.deltas.items ++ steps_of_rows l.up l.others l.rights l.fresh (take l.left-index l.lefts)
