-- The object that a body is, and how its fields are gone through: in their order, up to the first that says nothing of its
-- kind (docs/FORMATS.md, "Bodies").
use Rattle.std.specs.Prelude.{ℕ, if◌then◌else◌, List, None, Some, Ok, Err, option_and_then}
use Rattle.std.specs.declared.option.Option.{Option}
use Rattle.std.specs.declared.result.Result.{Result}
use Rattle.serde_json.specs.Data.{Data}
use Rattle.ctrl_model.specs.declared.commands.Command.{Command}
use Rattle.ctrl_model.specs.declared.refusals.Field.TheVariants as field
use Rattle.ctrl_model.specs.declared.refusals.Reason.TheVariants as reason
use Rattle.json_body.specs.declared.fields.FieldFault.{FieldFault}
use Rattle.json_body.specs.declared.fields.FieldFault.TheVariants as fault
use Rattle.json_body.specs.FieldKinds.{is_object}
use Rattle.body_fields.specs.BodyValues.{value_of_body}
use Rattle.command_codec.specs.declared.reading.CodecFault.{CodecFault}
use Rattle.command_codec.specs.declared.reading.CodecFault.TheVariants.{BadBody, NoMemory}

-- What an object says: a command, or the first fault of a field.
abbrev pub Reader : Type 0
Reader = Data → Result Command FieldFault

infixl 10 ◌>>=◌
-- What is said behind a field that says something; else its fault.
abbrev pub ◌>>=◌ : {A B : Type 0} → Result A FieldFault → (A → Result B FieldFault) → Result B FieldFault
(Ok x) >>= f = f x
(Err e) >>= f = Err e

-- A value that is an object.
abbrev pub as_body : Data → Option Data
as_body d = if is_object d then Some d else None

-- The object that a body is, if it is one.
abbrev pub object_of_body : List ℕ → Option Data
object_of_body body = option_and_then as_body (value_of_body body)

-- A fault of a field as the cause why a body spells no command.
abbrev pub cause_of : FieldFault → CodecFault
cause_of fault.NotObject = BadBody field.Nothing reason.NotObject
cause_of (fault.Missing of_field) = BadBody of_field reason.Missing
cause_of (fault.WrongKind of_field) = BadBody of_field reason.WrongKind
cause_of fault.Unknown = BadBody field.Nothing reason.Unknown
cause_of fault.NoMemory = NoMemory

-- What was read of an object, with the cause of a fault.
abbrev pub with_cause : Result Command FieldFault → Result Command CodecFault
with_cause (Ok c) = Ok c
with_cause (Err e) = Err (cause_of e)

-- What a body says that has to be an object.
abbrev pub said_by : Reader → Option Data → Result Command CodecFault
said_by reader None = Err (BadBody field.Nothing reason.NotObject)
said_by reader (Some o) = with_cause (reader o)
