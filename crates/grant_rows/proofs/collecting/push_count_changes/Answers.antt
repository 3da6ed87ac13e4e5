use Rattle.grant_rows.specs.MovedCounts.{entry_changes}
use Rattle.grant_rows.proofs.MovedEntries.{made_changes}
use Rattle.grant_rows.proofs.collecting.push_count_changes.Goals as goal

pub returns : goal.returns
returns c = record {
  added = entry_changes c.args.format c.args.relation c.args.moves.counted.now c.in_ok-moved.moved.entries;
  joined = c.in_ok-push_others.ensures.changes;
  exact =
      made_changes c.args.format c.args.relation c.args.moves.counted.now c.args.moves.steps.now c.in_ok-moved.moved.entries c.in_ok-push_others.ensures.ordered c.in_ok-push_others.ensures.long
      c.in_ok-moved.ensures;
}
