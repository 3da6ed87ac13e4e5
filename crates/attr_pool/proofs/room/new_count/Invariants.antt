use Rattle.std.proofs.Common.{◌≡◌, ◌≤◌, ◌+◌, drop}
use Rattle.std.specs.List.{filter}
use Rattle.std.specs.Set.{distinct_count}
use Rattle.std.specs.Str.{bytes_eq}
use Rattle.attr_pool.specs.Moving.{is_new}
use Rattle.attr_pool.proofs.room.new_count.Given as goal

abbrev pub invariant-names : goal.invariant-names
invariant-names l = record {
  few : l.count ≤ l.at;
  so_far : l.count + distinct_count bytes_eq (filter (is_new l.slots) (drop l.at l.fresh)) ≡ distinct_count bytes_eq (filter (is_new l.slots) l.fresh);
}
