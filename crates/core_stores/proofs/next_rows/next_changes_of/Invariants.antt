use Rattle.std.proofs.Common.{◌≡◌, map, take}
use Rattle.core_stores.specs.NextNumbers.{next_change_by}
use Rattle.core_stores.proofs.next_rows.next_changes_of.Given as goal

-- the changes of the kinds that were passed
abbrev pub invariant-kinds : goal.invariant-kinds
invariant-kinds l = l.changes.items ≡ map (next_change_by l.change l.stores) (take l.kind-index l.kinds)
