use Rattle.std.proofs.Common.{◌≡◌, ◌++◌, take, map}
use Rattle.grant_denorm.specs.Steps.{steps_of_pair}
use Rattle.grant_denorm.proofs.deltas.push_turn.Given as goal

abbrev pub invariant-partners : goal.invariant-partners
invariant-partners l = l.deltas.items ≡ l.fn.deltas.items ++ map (steps_of_pair l.x l.on_left l.turn.up) (take l.partner-index l.partners)
