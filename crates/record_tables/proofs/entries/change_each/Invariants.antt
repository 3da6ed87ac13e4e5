use Rattle.std.proofs.Common.{◌≡◌, length}
use Rattle.std.specs.Fn.{FnOnceReturnsAtMut}
use Rattle.record_tables.specs.Changes.{one_call}
use Rattle.record_tables.proofs.ChangedEntries.{ChangedTo}
use Rattle.record_tables.proofs.entries.change_each.Given as goal

-- the records before the place are changed
abbrev pub invariant-places : goal.invariant-places
invariant-places g l = record {
  count : l.count ≡ length l.fn.entries.entries;
  so_far : ChangedTo (λ old new. FnOnceReturnsAtMut (one_call g.F.Fn) l.change old tt new) l.fn.entries.entries l.entries.entries l.place;
}
