use Rattle.std.proofs.Common.{◌≡◌, take}
use Rattle.std.specs.List.{flat_map}
use Rattle.grant_denorm.specs.Steps.{steps_of_turn}
use Rattle.grant_denorm.proofs.deltas.list_turns.Given as goal

abbrev pub invariant-turns : goal.invariant-turns
invariant-turns l = l.deltas.items ≡ flat_map (steps_of_turn l.x l.on_left) (take l.turn-index l.turns)
