use Rattle.std.proofs.Common.{◌≡◌, map, take}
use Rattle.serde_json.specs.View.{view}
use Rattle.command_bodies.proofs.item_values.list_value.Given as goal

-- the values are those of the elements before the index
abbrev pub invariant-items : goal.invariant-items
invariant-items g l = map view l.values.items ≡ map g.T.ItemValue.spelled (take l.item-index l.items)
