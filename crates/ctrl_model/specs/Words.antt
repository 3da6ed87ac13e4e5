-- The words of fields, as bodies and refusals spell them (docs/FORMATS.md, "Refusals").
use Rattle.std.specs.Prelude.{ℕ, List, [], codes}
use Rattle.ctrl_model.specs.declared.refusals.Field.{Field}
use Rattle.ctrl_model.specs.declared.refusals.Field.TheVariants as field

-- The word of a field: the name that the table of commands gives it, and no bytes for none.
abbrev pub word_of : Field → List ℕ
word_of field.Name = codes "name"
word_of field.Attributes = codes "attributes"
word_of field.Cost = codes "cost"
word_of field.NoTraversal = codes "no_traversal"
word_of field.PolicyType = codes "type"
word_of field.Semantic = codes "semantic"
word_of field.IdentityRoles = codes "identity_roles"
word_of field.ServiceRoles = codes "service_roles"
word_of field.RouterRoles = codes "router_roles"
word_of field.A = codes "a"
word_of field.B = codes "b"
word_of field.LatencyA = codes "latency_a"
word_of field.LatencyB = codes "latency_b"
word_of field.Link = codes "link"
word_of field.Router = codes "router"
word_of field.Latency = codes "latency"
word_of field.Up = codes "up"
word_of field.Service = codes "service"
word_of field.Instance = codes "instance"
word_of field.Host = codes "host"
word_of field.Precedence = codes "precedence"
word_of field.No = codes "no"
word_of field.Identity = codes "identity"
word_of field.Ingress = codes "ingress"
word_of field.Chosen = codes "chosen"
word_of field.Links = codes "links"
word_of field.Potentials = codes "potentials"
word_of field.Routers = codes "routers"
word_of field.Terminator = codes "terminator"
word_of field.Total = codes "total"
word_of field.Protocols = codes "protocols"
word_of field.Addresses = codes "addresses"
word_of field.Ports = codes "ports"
word_of field.Protocol = codes "protocol"
word_of field.Address = codes "address"
word_of field.Port = codes "port"
word_of field.Nothing = []
