-- The state behind the first commands of `examples/network.lines`, by hand.
use Rattle.std.specs.Prelude.{ℕ, true, false, List, [], ◌∷◌, codes, None}
use Rattle.ctrl_model.specs.declared.addresses.Address.TheVariants.{Range, Under}
use Rattle.ctrl_model.specs.declared.kinds.Side.{Side}
use Rattle.ctrl_model.specs.declared.kinds.Semantic.TheVariants.{AnyOf}
use Rattle.ctrl_model.specs.declared.kinds.Relation.TheVariants.{Dial, IdentityRouter, ServiceRouter}
use Rattle.ctrl_model.specs.declared.kinds.Precedence.TheVariants.{Normal}
use Rattle.ctrl_model.specs.Numbered.{Table}
use Rattle.ctrl_model.specs.State.{State, Router}

-- A table of one record.
abbrev pub lone : {R : Type 0} → R → Table R
lone r = record { rows = (1, r) ∷ []; next = 2 }

-- A router that is connected and costs nothing.
abbrev pub connected_router : List ℕ → Router
connected_router name = record { name = name; attributes = []; cost = 0; through = true; connected = true }

-- The side `#all`.
abbrev pub all_side : Side
all_side = record { all = true; ids = []; attributes = [] }

-- The side of one attribute.
abbrev pub side_of : List ℕ → Side
side_of attribute = record { all = false; ids = []; attributes = attribute ∷ [] }

-- ann may dial web, which is offered behind r2, enters by r1, and has a circuit over l1.
abbrev pub small_network : State
small_network = record {
  identities = lone (record { name = codes "ann"; attributes = codes "staff" ∷ [] });
  services = lone (record { name = codes "web"; attributes = codes "apps" ∷ [] });
  routers = record { rows = (1, connected_router (codes "r1")) ∷ (2, connected_router (codes "r2")) ∷ []; next = 3 };
  links = lone (record { name = codes "l1"; a = 1; b = 2; cost = 11; latency_a = 0; latency_b = 0; up = true });
  service_policies = lone (record { name = codes "dial"; relation = Dial; semantic = AnyOf; left = side_of (codes "staff"); right = side_of (codes "apps") });
  edge_router_policies = lone (record {
    name = codes "edges";
    relation = IdentityRouter;
    semantic = AnyOf;
    left = all_side;
    right = record { all = false; ids = codes "r1" ∷ []; attributes = [] };
  });
  service_edge_router_policies = lone (record { name = codes "services"; relation = ServiceRouter; semantic = AnyOf; left = all_side; right = all_side });
  terminators = lone (record { service = 1; router = 2; instance = []; host = None; cost = 0; precedence = Normal });
  circuits = lone (record { identity = 1; service = 1; terminator = 1; ingress = 1; links = 1 ∷ [] });
  least_router_cost = 10;
  intercepts = [];
  serial = 0;
}

-- That network with a second service: web claims what is under example.org at the port 443, and api the addresses 10.1.0.0/16 at 22.
abbrev pub claimed_network : State
claimed_network = record small_network {
  services = record { rows = (1, record { name = codes "web"; attributes = [] }) ∷ (2, record { name = codes "api"; attributes = [] }) ∷ []; next = 3 };
  intercepts =
      (1, record { tcp = true; udp = false; addresses = Under (codes "example.org") ∷ []; ports = record { low = 443; high = 443 } ∷ [] })
      ∷ (2, record { tcp = true; udp = false; addresses = Range 167837696 16 ∷ []; ports = record { low = 22; high = 22 } ∷ [] }) ∷ [];
}
