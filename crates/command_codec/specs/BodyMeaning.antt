-- The command that a body spells under a content type, and the first cause why it spells none: its fields are gone through in their
-- order, up to the first that says nothing of its kind, and another key counts behind them (docs/FORMATS.md, "Commands", "Bodies").
use Rattle.std.specs.Prelude.{ℕ, ◌==◌, if◌then◌else◌, List, [], ◌∷◌, None, Some, Ok, Err}
use Rattle.std.specs.declared.option.Option.{Option}
use Rattle.std.specs.declared.result.Result.{Result}
use Rattle.serde_json.specs.Data.{Data}
use Rattle.ctrl_model.specs.declared.commands.Command.{Command}
use Rattle.ctrl_model.specs.declared.commands.Command.TheVariants as command
use Rattle.ctrl_model.specs.declared.refusals.Field.{Field}
use Rattle.ctrl_model.specs.declared.refusals.Refusal.{Refusal}
use Rattle.ctrl_model.specs.declared.refusals.Refusal.TheVariants as refusal
use Rattle.json_body.specs.declared.fields.FieldFault.{FieldFault}
use Rattle.json_body.specs.declared.fields.FieldFault.TheVariants.{Unknown}
use Rattle.json_body.specs.FieldKinds.{required, optional, finished}
use Rattle.ctrl_model.specs.declared.value_kinds.ValueKind.{ValueKind}
use Rattle.command_codec.specs.declared.reading.CodecFault.{CodecFault}
use Rattle.command_codec.specs.declared.reading.CodecFault.TheVariants as cause
use Rattle.command_codec.specs.declared.reading.CodecFault.TheVariants.{UnsupportedType}
use Rattle.ctrl_model.specs.ValueKinds.{Said}
use Rattle.command_codec.specs.BodyKinds.{as_kind}
use Rattle.ctrl_model.specs.BodyForms.{BodyField, Form, Makes, fields_in}
use Rattle.command_codec.specs.BodyObjects.{◌>>=◌, as_body, object_of_body, said_by}
use Rattle.ctrl_model.specs.CommandForms.{Row, row_at}

-- What an object says of a field of a kind, by the value that the field has where it is left out, if it may be.
abbrev pub said_of : (kind : ValueKind) → Option (Said kind) → Field → Data → Result (Said kind) FieldFault
said_of kind None of_field o = required (as_kind kind) of_field o
said_of kind (Some x) of_field o = optional (as_kind kind) x of_field o

-- What an object says of a field.
abbrev pub field_said : (f : BodyField) → Data → Result (Said f.kind) FieldFault
field_said f o = said_of f.kind f.otherwise f.of_field o

-- The command that is made of what an object says of each field of a form.
abbrev pub given : (form : Form) → Makes form → Data → Result Command FieldFault
given [] c o = Ok c
given (f ∷ fs) make o = field_said f o >>= λ x. given fs (make x) o

-- A command, where an object has no keys but the words of these fields.
abbrev pub ended : List Field → Data → Command → Result Command FieldFault
ended fields o c = finished fields o >>= λ end. Ok c

-- The command that an object spells which is to have the form of a row.
abbrev pub said_in : Row → Data → Result Command FieldFault
said_in r o = given r.form r.make o >>= ended (fields_in r.form) o

-- What a body says under a row, if there is one.
abbrev pub meaning_under : Option Row → List ℕ → Result Command CodecFault
meaning_under None body = Err UnsupportedType
meaning_under (Some r) body = said_by (said_in r) (object_of_body body)

-- The command that a body spells under a content type, or the first cause why it spells none. The body of Hello is not read.
abbrev pub meaning : ℕ → List ℕ → Result Command CodecFault
meaning content body = if content == 0 then Ok command.Hello else meaning_under (row_at content) body

-- The refusal that tells why a body spells no command. No body is in want of memory.
abbrev pub refusal_for : CodecFault → Refusal
refusal_for cause.UnsupportedType = refusal.UnsupportedType
refusal_for (cause.BadBody field reason) = refusal.BadBody field reason
refusal_for cause.NoMemory = refusal.UnsupportedType

-- What an object says under a row; where there is none, it has no key that is known.
abbrev pub said_under : Option Row → Data → Result Command FieldFault
said_under None o = Err Unknown
said_under (Some r) o = said_in r o

-- The same without the other keys.
abbrev pub given_under : Option Row → Data → Result Command FieldFault
given_under None o = Err Unknown
given_under (Some r) o = given r.form r.make o

-- What a JSON value says under a row, if there is one.
abbrev pub value_under : Option Row → Data → Result Command CodecFault
value_under None d = Err UnsupportedType
value_under (Some r) d = said_by (said_in r) (as_body d)

-- The command that the body spells which is this JSON value, or the first cause why it spells none.
abbrev pub value_meaning : ℕ → Data → Result Command CodecFault
value_meaning content d = if content == 0 then Ok command.Hello else value_under (row_at content) d
