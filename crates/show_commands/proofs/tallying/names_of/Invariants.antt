use Rattle.std.proofs.Common.{◌≡◌, map, take}
use Rattle.show_commands.proofs.tallying.names_of.Given as goal

abbrev pub invariant-tallies : goal.invariant-tallies
invariant-tallies l = l.names.items ≡ map (λ t. t.name) (take l.tally-index l.tallies)
