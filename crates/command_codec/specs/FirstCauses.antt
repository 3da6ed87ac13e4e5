-- The first cause why a body spells no command, as a place in the order of causes before which nothing is amiss; no reading is
-- followed to say it (docs/FORMATS.md, "Bodies").
use Rattle.std.specs.Prelude.{◌≡◌, ℕ, ◌==◌, false, List, None, Some}
use Rattle.std.specs.declared.option.Option.{Option}
use Rattle.serde_json.specs.Data.{Data}
use Rattle.ctrl_model.specs.declared.refusals.Field.TheVariants as field
use Rattle.ctrl_model.specs.declared.refusals.Reason.TheVariants as reason
use Rattle.json_body.specs.declared.fields.FieldFault.{FieldFault}
use Rattle.body_fields.specs.FieldRules.{FieldRule, IsFirstFault}
use Rattle.command_codec.specs.declared.reading.CodecFault.{CodecFault}
use Rattle.command_codec.specs.declared.reading.CodecFault.TheVariants.{UnsupportedType, BadBody}
use Rattle.command_codec.specs.FormRules.{rules_in}
use Rattle.command_codec.specs.BodyObjects.{object_of_body, cause_of}
use Rattle.ctrl_model.specs.CommandForms.{Row, row_at}

-- The first fault of an object, told as a cause.
pub record IsFaultCause (rules : List FieldRule) (o : Data) (cause : CodecFault) : Type 0 where
  pub fault : FieldFault
  pub first : IsFirstFault rules o fault
  pub told : cause ≡ cause_of fault

-- The first cause of a body that has to be an object which keeps these rules.
abbrev pub IsCauseOf : List FieldRule → Option Data → CodecFault → Type 0
IsCauseOf rules None cause = cause ≡ BadBody field.Nothing reason.NotObject
IsCauseOf rules (Some o) cause = IsFaultCause rules o cause

-- The first cause under the row of a content type, if there is such a type.
abbrev pub IsCauseUnder : Option Row → List ℕ → CodecFault → Type 0
IsCauseUnder None body cause = cause ≡ UnsupportedType
IsCauseUnder (Some r) body cause = IsCauseOf (rules_in r.form) (object_of_body body) cause

-- The first cause why a body spells no command under a content type. There is none for Hello, whose body is not read.
abbrev pub IsFirstCause : ℕ → List ℕ → CodecFault → Type 0
IsFirstCause content body cause = ((content == 0) ≡ false) × IsCauseUnder (row_at content) body cause
