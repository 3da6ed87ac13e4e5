use Rattle.std.proofs.Common.{◌≡◌, ◌++◌}
use Rattle.grant_rows.specs.MovedCounts.{entry_changes}
use Rattle.grant_rows.proofs.MovedEntries.{are_long}
use Rattle.grant_rows.proofs.collecting.push_others.Given as goal

abbrev pub invariant-pairs : goal.invariant-pairs
invariant-pairs l = record {
  changes : l.changes.items ++ entry_changes l.format l.relation l.counted l.pair-iterator ≡ l.fn.changes.items ++ entry_changes l.format l.relation l.counted l.moved.entries;
  long : are_long l.pair-iterator ≡ are_long l.moved.entries;
}
