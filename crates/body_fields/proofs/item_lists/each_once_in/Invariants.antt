use Rattle.std.proofs.Common.{◌≡◌, Some, option_map, take}
use Rattle.serde_json.specs.View.{items_view}
use Rattle.body_fields.specs.ItemLists.{each_of, each_once}
use Rattle.body_fields.proofs.item_lists.each_once_in.Given as goal

-- kept is what the values before the index say, each thing once
abbrev pub invariant-values : goal.invariant-values
invariant-values g l = option_map (each_once g.K.SameItems.same) (each_of g.K.ItemKind.kind (items_view (take l.value-index l.values))) ≡ Some l.kept.items
