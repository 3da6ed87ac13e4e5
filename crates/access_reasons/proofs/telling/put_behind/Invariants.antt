use Rattle.std.proofs.Common.{◌≡◌, ◌++◌, drop}
use Rattle.std.specs.List.{flat_map}
use Rattle.access_reasons.specs.ReasonLines.{behind_comma}
use Rattle.access_reasons.proofs.telling.put_behind.Given as goal

-- what was put down so far and the items that are left are all
abbrev pub invariant-items : goal.invariant-items
invariant-items l = l.out.items ++ flat_map behind_comma (drop l.item-index l.items) ≡ l.initial.out.items ++ flat_map behind_comma l.items
