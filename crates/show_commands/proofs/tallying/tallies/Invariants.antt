use Rattle.std.proofs.Common.{◌≡◌, take}
use Rattle.ctrl_model.specs.ShowCommands.{tallies}
use Rattle.entity_store.specs.EntityTables.{entities}
use Rattle.grant_denorm.specs.PairCounts.{count_of}
use Rattle.show_commands.proofs.tallying.tallies.Given as goal

abbrev pub invariant-entities : goal.invariant-entities
invariant-entities l = l.tallies.items ≡ tallies (count_of l.counted l.identity) (take l.number-index (entities l.kind l.known))
