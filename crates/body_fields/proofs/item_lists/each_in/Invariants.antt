use Rattle.std.proofs.Common.{◌≡◌, Some, take}
use Rattle.serde_json.specs.View.{items_view}
use Rattle.body_fields.specs.ItemLists.{each_of}
use Rattle.body_fields.proofs.item_lists.each_in.Given as goal

-- items are what the values before the index say
abbrev pub invariant-values : goal.invariant-values
invariant-values g l = each_of g.K.ItemKind.kind (items_view (take l.value-index l.values)) ≡ Some l.items.items
