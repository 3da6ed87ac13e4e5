use Rattle.std.proofs.Common.{◌≡◌, Ok, rules, ◌∙◌}
use Rattle.ctrl_model.specs.declared.refusals.Field.TheVariants.{Address}
use Rattle.json_body.specs.FieldKinds.{object_of, required}
use Rattle.serde_json.specs.Find.{as_str}
use Rattle.body_fields.proofs.InterceptLaws.{destination_at, destination_given, destination_there}
use Rattle.body_fields.proofs.intercept_fields.destination.Goals as goal

pub returns-in_err-destination_in-clause-memory : goal.returns-in_err-destination_in-clause-memory
returns-in_err-destination_in-clause-memory c =
    let text : required as_str Address (object_of c.args.fields.now) ≡ Ok c.in_ok-text.text.now = search rules in
    λ wanting. destination_there (object_of c.args.fields.now) c.in_ok-text.text.now text (search rules)

pub returns-clause-given : goal.returns-clause-given
returns-clause-given c =
    let text : required as_str Address (object_of c.args.fields.now) ≡ Ok c.in_ok-text.text.now = search rules in
    destination_given c.ok_or.result c.in_ok-destination_in.field-0 _ c.ok_or.ensures.value (destination_at (object_of c.args.fields.now) c.in_ok-text.text.now text ∙ search rules)
