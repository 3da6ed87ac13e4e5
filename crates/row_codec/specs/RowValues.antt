-- The values of rows: what the folder keeps of a record, byte by byte (docs/FORMATS.md, "Rows").
use Rattle.std.specs.Prelude.{ℕ, ◌+◌, Bool, cond, List, [], ◌∷◌, ◌++◌, length, None, Some}
use Rattle.std.specs.declared.option.Option.{Option}
use Rattle.std.specs.Int.{w16, w32, w64, to_le_bytes}
use Rattle.std.specs.List.{flat_map}
use Rattle.ctrl_model.specs.declared.formats.Format.{Format}
use Rattle.ctrl_model.specs.declared.formats.Format.TheVariants.{One, Two}
use Rattle.ctrl_model.specs.declared.kinds.Kind.{Kind}
use Rattle.ctrl_model.specs.declared.kinds.Kind.TheVariants as kind
use Rattle.ctrl_model.specs.declared.kinds.Side.{Side}
use Rattle.ctrl_model.specs.declared.kinds.Semantic.{Semantic}
use Rattle.ctrl_model.specs.declared.kinds.Semantic.TheVariants.{AnyOf, AllOf}
use Rattle.ctrl_model.specs.declared.kinds.Relation.{Relation}
use Rattle.ctrl_model.specs.declared.kinds.Relation.TheVariants.{Dial, Bind, IdentityRouter, ServiceRouter}
use Rattle.ctrl_model.specs.declared.kinds.Precedence.{Precedence}
use Rattle.ctrl_model.specs.declared.kinds.Precedence.TheVariants.{Required, Normal, Failed}
use Rattle.ctrl_model.specs.declared.addresses.Address.{Address}
use Rattle.ctrl_model.specs.declared.intercepts.Intercept.{Intercept}
use Rattle.ctrl_model.specs.declared.intercepts.PortRange.{PortRange}
use Rattle.ctrl_model.specs.AddressForm.{address_text}
use Rattle.ctrl_model.specs.State.{Entity, Router, Link, Policy, Terminator, Circuit}
use Rattle.ctrl_model.specs.Tables.{Record}

-- A number as four bytes, the least first.
abbrev pub long : ℕ → List ℕ
long n = to_le_bytes w32 n

-- A number as two bytes, the least first.
abbrev pub short : ℕ → List ℕ
short n = to_le_bytes w16 n

-- A number as eight bytes, the least first.
abbrev pub wide : ℕ → List ℕ
wide n = to_le_bytes w64 n

-- A grant count: four bytes in the first format, two in the second.
abbrev pub count_bytes : Format → ℕ → List ℕ
count_bytes One n = long n
count_bytes Two n = short n

-- A text: its length as one byte, and its bytes.
abbrev pub text : List ℕ → List ℕ
text bytes = length bytes ∷ bytes

-- A list of names: how many there are as one byte, and the names as texts.
abbrev pub texts : List (List ℕ) → List ℕ
texts names = length names ∷ flat_map text names

-- A truth value: 1 where it is true, else 0.
abbrev pub flag : Bool → ℕ
flag b = cond b 1 0

-- A side: whether it is `#all`, the `@` names, and the attributes.
abbrev pub side_bytes : Side → List ℕ
side_bytes side = flag side.all ∷ (texts side.ids ++ texts side.attributes)

-- Dial is 1 and Bind is 2. The other two relations stand in no value, and are 0.
abbrev pub relation_byte : Relation → ℕ
relation_byte Dial = 1
relation_byte Bind = 2
relation_byte IdentityRouter = 0
relation_byte ServiceRouter = 0

-- AnyOf is 1 and AllOf is 2.
abbrev pub semantic_byte : Semantic → ℕ
semantic_byte AnyOf = 1
semantic_byte AllOf = 2

-- Required is 1, default 2 and failed 3.
abbrev pub precedence_byte : Precedence → ℕ
precedence_byte Required = 1
precedence_byte Normal = 2
precedence_byte Failed = 3

-- The marks of a router: bit 0 that no path may pass through it, bit 1 that it is connected.
abbrev pub router_marks : Bool → Bool → ℕ
router_marks through connected = cond through 0 1 + cond connected 2 0

-- The number of a host, 0 for none.
abbrev pub host_number : Option ℕ → ℕ
host_number None = 0
host_number (Some n) = n

-- An identity or a service: its name and its attributes.
abbrev pub entity_value : Entity → List ℕ
entity_value e = text e.name ++ texts e.attributes

-- A router: as an entity, then its cost and its marks.
abbrev pub router_value : Router → List ℕ
router_value r = text r.name ++ (texts r.attributes ++ (short r.cost ++ router_marks r.through r.connected ∷ []))

-- A link: its name, its two routers, its static cost, the latencies of its two ends, and whether it is up.
abbrev pub link_value : Link → List ℕ
link_value l =
    text l.name ++ (long l.a ++ (long l.b ++ (short l.cost ++ (short l.latency_a ++ (short l.latency_b ++ flag l.up ∷ [])))))

-- The end of each policy: its semantic and its two sides.
abbrev pub sides_value : Policy → List ℕ
sides_value p = semantic_byte p.semantic ∷ (side_bytes p.left ++ side_bytes p.right)

-- A service policy: its name, its type, and the rest.
abbrev pub service_policy_value : Policy → List ℕ
service_policy_value p = text p.name ++ relation_byte p.relation ∷ sides_value p

-- A policy of another kind: its name, and the rest.
abbrev pub router_policy_value : Policy → List ℕ
router_policy_value p = text p.name ++ sides_value p

-- A terminator: its service, router and host, its instance, its cost and its precedence.
abbrev pub terminator_value : Terminator → List ℕ
terminator_value t =
    long t.service ++ (long t.router ++ (long (host_number t.host) ++ (text t.instance ++ (short t.cost ++ precedence_byte t.precedence ∷ []))))

-- A circuit: its identity, service, terminator and ingress, and its links, as many as the byte before them says.
abbrev pub circuit_value : Circuit → List ℕ
circuit_value c =
    long c.identity ++ (long c.service ++ (long c.terminator ++ (long c.ingress ++ length c.links ∷ flat_map long c.links)))

-- The value of a record of a kind.
abbrev pub record_value : (k : Kind) → Record k → List ℕ
record_value kind.Identity e = entity_value e
record_value kind.Service e = entity_value e
record_value kind.Router r = router_value r
record_value kind.Link l = link_value l
record_value kind.ServicePolicy p = service_policy_value p
record_value kind.EdgeRouterPolicy p = router_policy_value p
record_value kind.ServiceEdgeRouterPolicy p = router_policy_value p
record_value kind.Terminator t = terminator_value t
record_value kind.Circuit c = circuit_value c
record_value kind.Attribute u = []

-- The protocols of an intercept: bit 0 tcp, bit 1 udp.
abbrev pub protocols_byte : Bool → Bool → ℕ
protocols_byte tcp udp = cond tcp 1 0 + cond udp 2 0

-- A list: how many things there are as one byte, and the things.
abbrev pub listed : {A : Type 0} → (A → List ℕ) → List A → List ℕ
listed spelling xs = length xs ∷ flat_map spelling xs

-- An address, as its text.
abbrev pub address_value : Address → List ℕ
address_value a = text (address_text a)

-- A range of ports: the lowest one and the highest one.
abbrev pub port_range_value : PortRange → List ℕ
port_range_value r = short r.low ++ short r.high

-- An intercept: its protocols, its addresses and its ranges of ports.
abbrev pub intercept_value : Intercept → List ℕ
intercept_value i = protocols_byte i.tcp i.udp ∷ (listed address_value i.addresses ++ listed port_range_value i.ports)
