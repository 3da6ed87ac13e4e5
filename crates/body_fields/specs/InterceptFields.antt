-- The fields of the commands on intercepts: protocols, addresses and ports (docs/FORMATS.md, "Commands").
use Rattle.std.specs.Prelude.{ℕ, nat_le, if◌then◌else◌, Bool, true, false, not, ◌||◌, List, [], ◌∷◌, codes, None, Some, option_and_then}
use Rattle.std.specs.declared.option.Option.{Option}
use Rattle.std.specs.Str.{bytes_eq}
use Rattle.serde_json.specs.Data.{Data}
use Rattle.serde_json.specs.Find.{as_str}
use Rattle.ctrl_model.specs.declared.addresses.Address.{Address}
use Rattle.ctrl_model.specs.declared.intercepts.PortRange.{PortRange}
use Rattle.ctrl_model.specs.AddressForm.{address_of, same_address}
use Rattle.ctrl_model.specs.ValueForms.{is_one_place}
use Rattle.ctrl_model.specs.InterceptForm.{same_ports}
use Rattle.ctrl_model.specs.Limits.{most_claimed, most_port}
use Rattle.json_body.specs.FieldKinds.{as_number_in}
use Rattle.body_fields.specs.ItemLists.{as_each_of, as_some_once}
use Rattle.ctrl_model.specs.declared.intercepts.ProtocolSet.{ProtocolSet}

-- ---- protocols

-- Whether the protocol of a word is udp, or else tcp.
abbrev pub protocol_of : List ℕ → Option Bool
protocol_of word = if bytes_eq word (codes "tcp") then Some false else (if bytes_eq word (codes "udp") then Some true else None)

-- A protocol: whether it is udp, or else tcp.
abbrev pub as_protocol : Data → Option Bool
as_protocol d = option_and_then protocol_of (as_str d)

-- The protocols of one word or of two.
abbrev pub protocols_of : List Bool → Option ProtocolSet
protocols_of (udp ∷ []) = Some (record { tcp = not udp; udp = udp })
protocols_of (udp ∷ other ∷ []) = Some (record { tcp = not udp || not other; udp = udp || other })
protocols_of words = None

-- A list of one protocol or of two, which may be the same.
abbrev pub as_protocols : Data → Option ProtocolSet
as_protocols d = option_and_then protocols_of (as_each_of 2 as_protocol d)

-- ---- addresses

-- An address: the one that a text is read as.
abbrev pub as_address : Data → Option Address
as_address d = option_and_then address_of (as_str d)

-- The addresses of an intercept.
abbrev pub as_addresses : Data → Option (List Address)
as_addresses = as_some_once most_claimed as_address same_address

-- An address, if it is one place.
abbrev pub destination_of : Address → Option Address
destination_of a = if is_one_place a then Some a else None

-- The destination of a pick.
abbrev pub as_destination : Data → Option Address
as_destination d = option_and_then destination_of (as_address d)

-- ---- ports

-- A port.
abbrev pub as_port : Data → Option ℕ
as_port = as_number_in 1 most_port

-- The range from one port to another, if the first is not above the second.
abbrev pub range_from : ℕ → ℕ → Option PortRange
range_from low high = if nat_le low high then Some (record { low = low; high = high }) else None

-- The range that two ports are.
abbrev pub range_of : List ℕ → Option PortRange
range_of (low ∷ high ∷ []) = range_from low high
range_of ports = None

-- A range of ports: a list of the lowest and the highest.
abbrev pub as_range : Data → Option PortRange
as_range d = option_and_then range_of (as_each_of 2 as_port d)

-- The ranges of ports of an intercept.
abbrev pub as_ranges : Data → Option (List PortRange)
as_ranges = as_some_once most_claimed as_range same_ports
