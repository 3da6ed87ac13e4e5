-- What is asked of the fields of a form, and what the code has of it (docs/FORMATS.md, "Commands").
use Rattle.std.specs.Prelude.{Bool, List, map, None, Some}
use Rattle.std.specs.declared.option.Option.{Option}
use Rattle.serde_json.specs.Data.{Data}
use Rattle.ctrl_model.specs.declared.refusals.Field.{Field}
use Rattle.body_fields.specs.declared.field_rules.AskedField.{AskedField}
use Rattle.body_fields.specs.declared.field_rules.AskedField.TheVariants as asked
use Rattle.body_fields.specs.FieldRules.{FieldRule, rules_of}
use Rattle.command_codec.specs.declared.body_forms.BodyForm.{BodyForm}
use Rattle.command_codec.specs.declared.body_kinds.BodyKind.{BodyKind}
use Rattle.ctrl_model.specs.declared.value_kinds.ValueKind.{ValueKind}
use Rattle.ctrl_model.specs.BodyForms.{Form, fields_in}
use Rattle.ctrl_model.specs.ValueKinds.{Said}
use Rattle.command_codec.specs.BodyKinds.{is_of_kind}
use Rattle.ctrl_model.specs.CommandForms.{Row}

-- Whether a value is of the kind of a field's values.
abbrev pub is_of_body_kind : BodyKind → Data → Bool
is_of_body_kind kind d = is_of_kind kind.0 d

-- What is asked of a field of a kind, by the value that it has where it is left out, if it may be.
abbrev pub asked_by : (kind : ValueKind) → Option (Said kind) → Field → AskedField BodyKind
asked_by kind None of_field = asked.Needed of_field (record { 0 = kind })
asked_by kind (Some x) of_field = asked.Optional of_field (record { 0 = kind })

-- What is asked of each field of a form.
abbrev pub asked_in : Form → List (AskedField BodyKind)
asked_in form = map (λ f. asked_by f.kind f.otherwise f.of_field) form

-- The rules of the fields of a form.
abbrev pub rules_in : Form → List FieldRule
rules_in form = rules_of is_of_body_kind (asked_in form)

-- What is asked of the fields of a form that the code has, and which fields there may be.
abbrev pub form_asks : BodyForm → List (AskedField BodyKind) × List Field
form_asks form = (form.rules.now, form.allowed.now)

-- The same of a row.
abbrev pub row_asks : Row → List (AskedField BodyKind) × List Field
row_asks r = (asked_in r.form, fields_in r.form)
