use Rattle.std.proofs.Common.{◌≡◌, take}
use Rattle.ctrl_model.proofs.items.copy_each.Given as goal

-- the copies are equal to the ones before the index
abbrev pub invariant-values : goal.invariant-values
invariant-values g l = l.copied.items ≡ take l.value-index l.values
