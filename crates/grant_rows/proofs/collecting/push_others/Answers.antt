use Rattle.grant_rows.proofs.MovedEntries.{listed_one_more, long_one_more}
use Rattle.grant_rows.proofs.collecting.push_others.Goals as goal

pub pairs-preserved : goal.pairs-preserved
pairs-preserved c = record {
  changes =
      listed_one_more c.args.format c.args.relation c.args.counted.now c.args.moved.now.entries c.pairs.pair-iterator c.next.new.self (c.in-Some.pair.now, c.in-Some.after.now) c.args.changes.now.items
      c.pairs.changes.items c.push_if_other.new.changes.items c.in-Some.ensures.steps c.pairs.invariant.changes c.in_ok-push_if_other.ensures.changes;
  long =
      long_one_more c.args.moved.now.entries c.pairs.pair-iterator c.next.new.self (c.in-Some.pair.now, c.in-Some.after.now) c.in-Some.ensures.steps c.pairs.invariant.long
      c.push_if_other.ensures.long;
}
