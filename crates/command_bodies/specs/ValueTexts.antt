-- What the code writes of the value of a field. Private contracts alone cite it.
use Rattle.std.specs.Prelude.{Bool, true, map, Some}
use Rattle.std.specs.declared.option.Option.{Option}
use Rattle.std.specs.List.{list_all}
use Rattle.ctrl_model.specs.AddressForm.{address_text, is_address}
use Rattle.command_bodies.specs.declared.field_values.FieldValue.{FieldValue}
use Rattle.command_bodies.specs.declared.field_values.FieldValue.TheVariants as value
use Rattle.command_bodies.specs.RoleEntries.{role_texts}
use Rattle.command_bodies.specs.WrittenFields.{Given, a_text, a_number, a_flag, some_texts, some_numbers, some_reaches, some_ranges, text_if_any}
use Rattle.command_bodies.specs.WrittenWords.{protocol_words}

-- What is written of a value.
abbrev pub given_by : FieldValue → Option Given
given_by (value.Name name) = Some (a_text name.now)
given_by (value.NameOrNone name) = text_if_any name.now
given_by (value.Instance instance) = Some (a_text instance.now)
given_by (value.Word word) = Some (a_text word.now)
given_by (value.Number n) = Some (a_number n)
given_by (value.Flag b) = Some (a_flag b)
given_by (value.Names names) = Some (some_texts names.now)
given_by (value.Roles side) = Some (some_texts (role_texts side.now))
given_by (value.Numbers ns) = Some (some_numbers ns.now)
given_by (value.Potentials es) = Some (some_reaches es.now)
given_by (value.Protocols tcp udp) = Some (some_texts (protocol_words tcp udp))
given_by (value.Address address) = Some (a_text (address_text address.now))
given_by (value.Addresses addresses) = Some (some_texts (map address_text addresses.now))
given_by (value.Ranges ranges) = Some (some_ranges ranges.now)

-- Whether addresses of a value are such as have a spelling.
abbrev pub has_spelling : FieldValue → Bool
has_spelling (value.Address address) = is_address address.now
has_spelling (value.Addresses addresses) = list_all is_address addresses.now
has_spelling _ = true
