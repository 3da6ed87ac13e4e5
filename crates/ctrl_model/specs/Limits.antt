-- The limits of a controller (docs/RULES.md, "Limits").
use Rattle.std.specs.Prelude.{ℕ, ◌+◌}
use Rattle.ctrl_model.specs.declared.kinds.Kind.{Kind}
use Rattle.ctrl_model.specs.declared.kinds.Kind.TheVariants as kind

-- How many records of a kind may be present, and how many attributes may be in use.
abbrev pub limit : Kind → ℕ
limit kind.Identity = 2048
limit kind.Service = 512
limit kind.Router = 256
limit kind.Link = 4096
limit kind.ServicePolicy = 512
limit kind.EdgeRouterPolicy = 256
limit kind.ServiceEdgeRouterPolicy = 256
limit kind.Terminator = 4096
limit kind.Circuit = 16384
limit kind.Attribute = 4096

-- The greatest number of four bytes.
abbrev pub most_number : ℕ
most_number = 4294967295

-- The last value of a next number. A kind that has reached it gets no more records.
abbrev pub last_next : ℕ
last_next = most_number

-- How many links a path may have: it visits no router twice.
abbrev pub longest_path : ℕ
longest_path = 255

-- How many entries an attribute or role list may have.
abbrev pub most_entries : ℕ
most_entries = 64

-- How many bytes a name may have.
abbrev pub longest_name : ℕ
longest_name = 64

-- The greatest cost of a router, a terminator or a link, and the greatest least router cost.
abbrev pub most_cost : ℕ
most_cost = 65535

-- The greatest cost of a terminator with its load: its static cost, and 1 for each circuit that may be open.
abbrev pub most_terminator_cost : ℕ
most_terminator_cost = most_cost + limit kind.Circuit

-- The greatest latency that one end of a link reports.
abbrev pub most_latency : ℕ
most_latency = 60000

-- How many bytes a host of an address may have.
abbrev pub longest_host : ℕ
longest_host = 253

-- How many bytes a label of a host may have.
abbrev pub longest_label : ℕ
longest_label = 63

-- How many bits an address of four numbers has.
abbrev pub most_bits : ℕ
most_bits = 32

-- How many addresses an intercept may have, and how many ranges of ports.
abbrev pub most_claimed : ℕ
most_claimed = 32

-- The greatest port. The least one is 1.
abbrev pub most_port : ℕ
most_port = 65535

-- The last serial. A state that has it is changed no more.
abbrev pub last_serial : ℕ
last_serial = 9223372036854775808
