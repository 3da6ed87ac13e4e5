use Rattle.std.proofs.Common.{◌≡◌, Some, sym, ap, ◌∙◌, arith, rules}
use Rattle.std.specs.Prelude.{option_and_then}
use Rattle.serde_json.specs.View.{view, items_view}
use Rattle.json_body.specs.FieldKinds.{as_list_of}
use Rattle.body_fields.specs.ItemLists.{each_of}
use Rattle.body_fields.specs.InterceptFields.{range_of, as_port}
use Rattle.body_fields.proofs.InterceptLaws.{no_two_ports}
use Rattle.body_fields.proofs.intercept_fields.range_in.Goals as goal

pub returns-in_default : goal.returns-in_default
returns-in_default c =
    let listed : Some (items_view c.in_ok-as_list_of.field-0.now) ≡ as_list_of 2 (view c.args.value.now) = search rules in
    sym (no_two_ports c.in_ok-as_list_of.field-0.now (λ two. omega (arith, two, c.in_default.len_below))) ∙ ap (λ o. option_and_then range_of (option_and_then (each_of as_port) o)) listed

pub returns-in_default-2 : goal.returns-in_default-2
returns-in_default-2 c =
    let listed : Some (items_view c.in_ok-as_list_of.field-0.now) ≡ as_list_of 2 (view c.args.value.now) = search rules in
    sym (no_two_ports c.in_ok-as_list_of.field-0.now (λ two. omega (arith, two, c.in_default.len_at_least))) ∙ ap (λ o. option_and_then range_of (option_and_then (each_of as_port) o)) listed
