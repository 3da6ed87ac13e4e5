use Rattle.std.proofs.Common.{◌≡◌, take, filter, not}
use Rattle.ctrl_model.specs.Walks.{is_among}
use Rattle.grant_denorm.proofs.deltas.without.Given as goal

abbrev pub invariant-numbers : goal.invariant-numbers
invariant-numbers l = l.kept.items ≡ filter (λ n. not (is_among n l.others)) (take l.number-index l.numbers)
