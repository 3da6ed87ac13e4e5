use Rattle.std.proofs.Common.{◌≡◌, Err, sym}
use Rattle.ctrl_model.specs.declared.refusals.Field.TheVariants.{Attributes}
use Rattle.json_body.specs.FieldKinds.{as_list_of, object_of, required}
use Rattle.body_fields.proofs.FieldLaws.{never_wanting}
use Rattle.command_codec.proofs.attribute_lists.attributes.Goals as goal

pub returns-in_err-values-clause-memory : goal.returns-in_err-values-clause-memory
returns-in_err-values-clause-memory c =
    let none : required (as_list_of 64) Attributes (object_of c.args.fields.now) ≡ Err c.in_err-values.field-0.0 = sym c.in_err-values.ensures in
    λ wanting. absurd (never_wanting (as_list_of 64) Attributes (object_of c.args.fields.now) c.from_residual.result c.in_err-values.field-0.0 c.from_residual.ensures.1 none wanting)
