-- The kinds of the values of fields: what a value of each is, and what is to hold of it (docs/FORMATS.md, "Commands").
use Rattle.std.specs.Prelude.{ℕ, Bool, ◌||◌, nat_le, List, [], ◌∷◌, length}
use Rattle.std.specs.declared.option.Option.{Option}
use Rattle.std.specs.List.{list_all}
use Rattle.ctrl_model.specs.declared.addresses.Address.{Address}
use Rattle.ctrl_model.specs.declared.claims.Reach.{Reach}
use Rattle.ctrl_model.specs.declared.intercepts.PortRange.{PortRange}
use Rattle.ctrl_model.specs.declared.intercepts.ProtocolSet.{ProtocolSet}
use Rattle.ctrl_model.specs.declared.kinds.Kind.TheVariants as kind
use Rattle.ctrl_model.specs.declared.kinds.Precedence.{Precedence}
use Rattle.ctrl_model.specs.declared.kinds.Relation.{Relation}
use Rattle.ctrl_model.specs.declared.kinds.Semantic.{Semantic}
use Rattle.ctrl_model.specs.declared.kinds.Side.{Side}
use Rattle.ctrl_model.specs.declared.value_kinds.ValueKind.{ValueKind}
use Rattle.ctrl_model.specs.declared.value_kinds.ValueKind.TheVariants as value
use Rattle.ctrl_model.specs.AddressForm.{is_address, same_address}
use Rattle.ctrl_model.specs.InterceptForm.{is_claim, is_port_range, same_ports}
use Rattle.ctrl_model.specs.Limits.{limit, most_cost, most_latency, most_number, most_port}
use Rattle.ctrl_model.specs.NameForm.{is_name, is_instance}
use Rattle.ctrl_model.specs.ValueForms.{in_range, are_attributes, is_side, is_service_relation, is_name_or_none, is_reach, are_numbers, is_destination}

-- The values of a kind.
abbrev pub Said : ValueKind → Type 0
Said value.Name = List ℕ
Said value.NameOrNone = Option (List ℕ)
Said value.Attributes = List (List ℕ)
Said value.Side = Side
Said (value.Number low high) = ℕ
Said value.Flag = Bool
Said value.Relation = Relation
Said value.Semantic = Semantic
Said value.Precedence = Precedence
Said value.Instance = List ℕ
Said (value.Numbers most) = List ℕ
Said value.Potentials = List Reach
Said value.Protocol = Bool
Said value.Protocols = ProtocolSet
Said value.Destination = Address
Said value.Addresses = List Address
Said value.Ranges = List PortRange

-- ---- numbers in their ranges

-- The number of a record.
abbrev pub number_of_record : ValueKind
number_of_record = value.Number 1 most_number

-- A cost of a router or of a terminator.
abbrev pub cost : ValueKind
cost = value.Number 0 most_cost

-- The static cost of a link, and the least router cost.
abbrev pub link_cost : ValueKind
link_cost = value.Number 1 most_cost

-- The latency that one end of a link reports.
abbrev pub latency : ValueKind
latency = value.Number 0 most_latency

-- The cost of a route.
abbrev pub total : ValueKind
total = value.Number 0 most_number

-- A port.
abbrev pub port : ValueKind
port = value.Number 1 most_port

-- ---- what is to hold

-- What is to hold of a value of a kind, for some body to spell it.
abbrev pub checks : (k : ValueKind) → Said k → List Bool
checks value.Name n = is_name n ∷ []
checks value.NameOrNone n = is_name_or_none n ∷ []
checks value.Attributes ns = are_attributes ns ∷ []
checks value.Side side = is_side side ∷ []
checks (value.Number low high) n = in_range low high n ∷ []
checks value.Flag b = []
checks value.Relation r = is_service_relation r ∷ []
checks value.Semantic s = []
checks value.Precedence p = []
checks value.Instance i = is_instance i ∷ []
checks (value.Numbers most) ns = are_numbers most ns ∷ []
checks value.Potentials es = nat_le (length es) (limit kind.Router) ∷ list_all is_reach es ∷ []
checks value.Protocol udp = []
checks value.Protocols p = (p.tcp || p.udp) ∷ []
checks value.Destination a = is_destination a ∷ []
checks value.Addresses xs = is_claim is_address same_address xs ∷ []
checks value.Ranges rs = is_claim is_port_range same_ports rs ∷ []
