-- What a JSON value says of a kind of the values of fields (docs/FORMATS.md, "Commands").
use Rattle.std.specs.Prelude.{Bool, is_some}
use Rattle.std.specs.declared.option.Option.{Option}
use Rattle.serde_json.specs.Data.{Data}
use Rattle.serde_json.specs.Find.{as_bool}
use Rattle.json_body.specs.FieldKinds.{as_name, as_number_in}
use Rattle.body_fields.specs.FieldValues.{as_instance, as_some_name}
use Rattle.body_fields.specs.FieldWords.{as_precedence, as_relation, as_semantic}
use Rattle.body_fields.specs.InterceptFields.{as_addresses, as_destination, as_protocol, as_protocols, as_ranges}
use Rattle.body_fields.specs.RouteClaims.{as_numbers, as_potentials}
use Rattle.ctrl_model.specs.declared.value_kinds.ValueKind.{ValueKind}
use Rattle.ctrl_model.specs.declared.value_kinds.ValueKind.TheVariants as value
use Rattle.ctrl_model.specs.ValueKinds.{Said}
use Rattle.command_codec.specs.NameLists.{as_attributes}
use Rattle.command_codec.specs.RoleLists.{as_side}

-- What a value says, if it is of a kind.
abbrev pub as_kind : (kind : ValueKind) → Data → Option (Said kind)
as_kind value.Name = as_name
as_kind value.NameOrNone = as_some_name
as_kind value.Attributes = as_attributes
as_kind value.Side = as_side
as_kind (value.Number low high) = as_number_in low high
as_kind value.Flag = as_bool
as_kind value.Relation = as_relation
as_kind value.Semantic = as_semantic
as_kind value.Precedence = as_precedence
as_kind value.Instance = as_instance
as_kind (value.Numbers most) = as_numbers most
as_kind value.Potentials = as_potentials
as_kind value.Protocol = as_protocol
as_kind value.Protocols = as_protocols
as_kind value.Destination = as_destination
as_kind value.Addresses = as_addresses
as_kind value.Ranges = as_ranges

-- Whether a value is of a kind.
abbrev pub is_of_kind : ValueKind → Data → Bool
is_of_kind value.Name d = is_some (as_name d)
is_of_kind value.NameOrNone d = is_some (as_some_name d)
is_of_kind value.Attributes d = is_some (as_attributes d)
is_of_kind value.Side d = is_some (as_side d)
is_of_kind (value.Number low high) d = is_some (as_number_in low high d)
is_of_kind value.Flag d = is_some (as_bool d)
is_of_kind value.Relation d = is_some (as_relation d)
is_of_kind value.Semantic d = is_some (as_semantic d)
is_of_kind value.Precedence d = is_some (as_precedence d)
is_of_kind value.Instance d = is_some (as_instance d)
is_of_kind (value.Numbers most) d = is_some (as_numbers most d)
is_of_kind value.Potentials d = is_some (as_potentials d)
is_of_kind value.Protocol d = is_some (as_protocol d)
is_of_kind value.Protocols d = is_some (as_protocols d)
is_of_kind value.Destination d = is_some (as_destination d)
is_of_kind value.Addresses d = is_some (as_addresses d)
is_of_kind value.Ranges d = is_some (as_ranges d)
