use Rattle.std.proofs.Common.{◌≡◌, ◌≤◌, ◌+◌, drop}
use Rattle.std.specs.List.{filter}
use Rattle.std.specs.Set.{distinct_count}
use Rattle.std.specs.Str.{bytes_eq}
use Rattle.attr_pool.specs.Moving.{leaves}
use Rattle.attr_pool.proofs.room.left_count.Given as goal

abbrev pub invariant-names : goal.invariant-names
invariant-names l = record {
  few : l.count ≤ l.at;
  so_far : l.count + distinct_count bytes_eq (filter (leaves l.slots l.gone l.fresh) (drop l.at l.gone)) ≡ distinct_count bytes_eq (filter (leaves l.slots l.gone l.fresh) l.gone);
}
