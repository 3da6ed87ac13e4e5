use Rattle.std.proofs.Common.{◌∙◌}
use Rattle.entity_store.specs.EntityTables.{entities, next_of}
use Rattle.grant_denorm.specs.PairCounts.{count_of}
use Rattle.show_commands.proofs.TallyLaws.{each_stands, tallied}
use Rattle.show_commands.proofs.tallying.tallies.Goals as goal

pub unreachable-requires : goal.unreachable-requires
unreachable-requires c =
    each_stands (next_of c.args.kind c.args.known.now) (entities c.args.kind c.args.known.now) c.as_slice-number-items.result.now c.entities.number-index
    c.in_ok-numbers.ensures.numbers.ordered (c.as_slice-number-items.ensures ∙ c.in_ok-numbers.ensures.all) c.entities-test.true c.in_default.ensures

pub entities-preserved : goal.entities-preserved
entities-preserved c =
    tallied (count_of c.args.counted.now c.args.identity) (next_of c.args.kind c.args.known.now) (entities c.args.kind c.args.known.now)
    c.as_slice-number-items.result.now c.entities.number-index c.count.result (record { name = c.in-Some.name.now; attributes = c.in-Some.field-0-1.now })
    c.entities.tallies.items c.push_tally.new.tallies.items
    c.in_ok-numbers.ensures.numbers.ordered (c.as_slice-number-items.ensures ∙ c.in_ok-numbers.ensures.all) c.entities-test.true
    c.in-Some.ensures c.count.ensures c.entities.invariant c.in_ok-push_tally.ensures
