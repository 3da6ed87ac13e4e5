use Rattle.std.proofs.Common.{◌≡◌, [], Some, is_some, ap, ◌∙◌, rules}
use Rattle.std.specs.Prelude.{option_and_then, option_map}
use Rattle.serde_json.specs.View.{view, items_view}
use Rattle.json_body.specs.FieldKinds.{as_list_of}
use Rattle.body_fields.specs.ItemLists.{each_of, each_once, at_least_one}
use Rattle.body_fields.proofs.OnceLaws.{said_somewhere}
use Rattle.body_fields.proofs.item_lists.is_some_list_of.Goals as goal

pub returns-then-not-is_empty : goal.returns-then-not-is_empty
returns-then-not-is_empty g c =
    let listed : Some (items_view c.in-Some.values.now) ≡ as_list_of c.args.most (view c.args.value.now) = search rules in
    let some : c.in-Some.values.now ≡ [] → ⊥ = λ none. absurd (search rules) in
    c.are_said.ensures ∙ said_somewhere g.K.SameItems.same g.K.ItemKind.kind c.in-Some.values.now some
    ∙ ap (λ o. is_some (option_map (each_once g.K.SameItems.same) (option_and_then at_least_one (option_and_then (each_of g.K.ItemKind.kind) o)))) listed
