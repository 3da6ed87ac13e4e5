-- The fields that the body of a command gives, each with its value: every field of the command's form, but a host or an ingress that
-- is none (docs/FORMATS.md, "Commands", "Bodies").
use Rattle.std.specs.Prelude.{ℕ, nat_le, nat_lt, if◌then◌else◌, ◌&&◌, List, [], ◌∷◌, map, None, Some}
use Rattle.std.specs.declared.option.Option.{Option}
use Rattle.ctrl_model.specs.AddressForm.{address_text}
use Rattle.ctrl_model.specs.declared.commands.Command.{Command}
use Rattle.ctrl_model.specs.declared.refusals.Field.{Field}
use Rattle.ctrl_model.specs.declared.value_kinds.ValueKind.{ValueKind}
use Rattle.ctrl_model.specs.declared.value_kinds.ValueKind.TheVariants as value
use Rattle.ctrl_model.specs.BodyForms.{Form, Values, ◌&◌, fields_in}
use Rattle.ctrl_model.specs.ValueKinds.{Said}
use Rattle.ctrl_model.specs.CommandValues.{form_of, values_of}
use Rattle.ctrl_model.specs.ContentTypes.{content_of}
use Rattle.command_bodies.specs.RoleEntries.{role_texts}
use Rattle.command_bodies.specs.WrittenFields.{Given, a_text, a_number, a_flag, some_texts, some_numbers, some_reaches, some_ranges, text_if_any}
use Rattle.command_bodies.specs.WrittenWords.{relation_word, semantic_word, precedence_word, protocol_word, protocol_words}

-- What is written of a value of a kind: nothing of a name that is none.
abbrev pub written : (kind : ValueKind) → Said kind → Option Given
written value.Name name = Some (a_text name)
written value.NameOrNone name = text_if_any name
written value.Attributes names = Some (some_texts names)
written value.Side side = Some (some_texts (role_texts side))
written (value.Number low high) n = Some (a_number n)
written value.Flag b = Some (a_flag b)
written value.Relation relation = Some (a_text (relation_word relation))
written value.Semantic semantic = Some (a_text (semantic_word semantic))
written value.Precedence precedence = Some (a_text (precedence_word precedence))
written value.Instance instance = Some (a_text instance)
written (value.Numbers most) ns = Some (some_numbers ns)
written value.Potentials es = Some (some_reaches es)
written value.Protocol udp = Some (a_text (protocol_word udp))
written value.Protocols p = Some (some_texts (protocol_words p.tcp p.udp))
written value.Destination address = Some (a_text (address_text address))
written value.Addresses addresses = Some (some_texts (map address_text addresses))
written value.Ranges ranges = Some (some_ranges ranges)

-- What is written of the values of a form, one by one.
abbrev pub each_written : (form : Form) → Values form → List (Option Given)
each_written [] xs = []
each_written (f ∷ fs) xs = written f.kind xs.0 ∷ each_written fs xs.1

-- Some fields of a body.
abbrev pub GivenFields : Type 0
GivenFields = List (Field × Given)

-- A field before others, if something is written of it.
abbrev pub with_given : Field → Option Given → GivenFields → GivenFields
with_given of_field None fs = fs
with_given of_field (Some g) fs = (of_field, g) ∷ fs

-- The fields of which something is written.
abbrev pub given_fields : List Field → List (Option Given) → GivenFields
given_fields fs [] = []
given_fields [] (g ∷ gs) = []
given_fields (f ∷ fs) (g ∷ gs) = with_given f g (given_fields fs gs)

-- The fields that the body of a command gives.
abbrev pub fields_of : Command → GivenFields
fields_of c = given_fields (fields_in (form_of c)) (each_written (form_of c) (values_of c))

-- What is written of the values of a command of a family, and nothing of another command. The content types of a family begin at the
-- first number and end before the second.
abbrev pub values_between : ℕ → ℕ → Command → List (Option Given)
values_between first past c = if nat_le first (content_of c) && nat_lt (content_of c) past then each_written (form_of c) (values_of c) else []
