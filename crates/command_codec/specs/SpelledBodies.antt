-- When a body spells a command, without an order of reading: its object gives each field of the command's form, of its kind or left
-- out where that may be, and has no other key (docs/FORMATS.md, "Commands").
use Rattle.std.specs.Prelude.{◌≡◌, ℕ, true, ⊤, List, [], ◌∷◌, Ok, None, Some}
use Rattle.std.specs.declared.option.Option.{Option}
use Rattle.serde_json.specs.Data.{Data}
use Rattle.ctrl_model.specs.declared.commands.Command.{Command}
use Rattle.ctrl_model.specs.declared.commands.Command.TheVariants as command
use Rattle.json_body.specs.FieldKinds.{has_only}
use Rattle.ctrl_model.specs.ValueKinds.{Said}
use Rattle.ctrl_model.specs.BodyForms.{BodyField, Form, Values, fields_in, made_of}
use Rattle.command_codec.specs.BodyMeaning.{field_said}
use Rattle.command_codec.specs.BodyObjects.{object_of_body}
use Rattle.ctrl_model.specs.CommandForms.{Row, row_at}
use Rattle.ctrl_model.specs.ContentTypes.{content_of}

-- An object gives this value in a field: one of the field's kind, or the one that the field has where it is left out, if it may be.
abbrev pub Tells : (f : BodyField) → Said f.kind → Data → Type 0
Tells f x o = field_said f o ≡ Ok x

-- An object gives these values in the fields of a form.
abbrev pub TellsEach : (form : Form) → Values form → Data → Type 0
TellsEach [] xs o = ⊤
TellsEach (f ∷ fs) xs o = Tells f xs.0 o × TellsEach fs xs.1 o

-- A body is an object that gives a value in each field of a row's form and has no other key, and the row's command is made of these
-- values.
pub record Gives (r : Row) (body : List ℕ) (c : Command) : Type 0 where
  pub object : Data
  pub is_body : object_of_body body ≡ Some object
  pub only : has_only (fields_in r.form) object ≡ true
  pub values : Values r.form
  pub tells : TellsEach r.form values object
  pub made : c ≡ made_of r.form r.make values

-- A body gives the fields of a command under the row of its content type. Any body gives those of Hello, which has no row.
abbrev pub GivesFields : Option Row → List ℕ → Command → Type 0
GivesFields None body c = c ≡ command.Hello
GivesFields (Some r) body c = Gives r body c

-- A body spells a command under a content type: the type is the command's, and the body gives the command's fields.
abbrev pub Spells : ℕ → List ℕ → Command → Type 0
Spells content body c = (content ≡ content_of c) × GivesFields (row_at content) body c
