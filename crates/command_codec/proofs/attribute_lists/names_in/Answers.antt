use Rattle.std.proofs.Common.{Some, option_map, sym, ap, ◌∙◌}
use Rattle.serde_json.specs.View.{items_view}
use Rattle.json_body.specs.FieldKinds.{as_name}
use Rattle.body_fields.specs.ItemLists.{each_of}
use Rattle.command_codec.proofs.NameListLaws.{names_once}
use Rattle.command_codec.proofs.attribute_lists.names_in.Goals as goal

pub returns-in-Some-clause-names : goal.returns-in-Some-clause-names
returns-in-Some-clause-names c =
    ap (λ ns. Some ns) c.of.ensures ∙ ap (λ o. option_map (λ v. v.items) o) (sym c.in-Some.is) ∙ c.in_ok-names.ensures.values ∙ names_once (each_of as_name (items_view c.args.values.now))
