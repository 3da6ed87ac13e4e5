use Rattle.std.proofs.Common.{◌≡◌, true, take}
use Rattle.std.specs.Prelude.{is_some}
use Rattle.serde_json.specs.View.{items_view}
use Rattle.body_fields.specs.ItemLists.{each_of}
use Rattle.body_fields.proofs.item_lists.are_said.Given as goal

-- each of the values before the index says something
abbrev pub invariant-values : goal.invariant-values
invariant-values g l = is_some (each_of g.K.ItemKind.kind (items_view (take l.value-index l.values))) ≡ true
