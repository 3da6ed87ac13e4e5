-- A state of the worked examples.
use Rattle.std.specs.Prelude.{ℕ, true, false, List, [], ◌∷◌, codes, None}
use Rattle.ctrl_model.specs.declared.kinds.Precedence.TheVariants.{Failed, Required}
use Rattle.ctrl_model.specs.Numbered.{Table}
use Rattle.ctrl_model.specs.State.{State}
use Rattle.record_lines.specs.WorkedRecords.{connected_router, small_network}

-- The small network with a third router that is not connected, a link to it that is down, a costly link beside the first, and a second
-- service, which is offered at a terminator that failed. The one circuit is the third that there was.
abbrev pub torn_network : State
torn_network = record small_network {
  services = record { rows = (1, record { name = codes "web"; attributes = [] }) ∷ (2, record { name = codes "api.v2"; attributes = [] }) ∷ []; next = 3 };
  routers = record {
    rows =
        (1, connected_router (codes "r1"))
        ∷ (2, connected_router (codes "r2"))
        ∷ (4, record { name = codes "far-side"; attributes = []; cost = 7; through = false; connected = false }) ∷ [];
    next = 5;
  };
  links = record {
    rows =
        (1, record { name = codes "l1"; a = 1; b = 2; cost = 11; latency_a = 3; latency_b = 4; up = true })
        ∷ (2, record { name = codes "l2"; a = 2; b = 4; cost = 5; latency_a = 0; latency_b = 0; up = false })
        ∷ (3, record { name = codes "l3"; a = 2; b = 1; cost = 90; latency_a = 0; latency_b = 0; up = true }) ∷ [];
    next = 4;
  };
  terminators = record {
    rows =
        (1, record { service = 1; router = 2; instance = []; host = None; cost = 0; precedence = Required })
        ∷ (2, record { service = 2; router = 4; instance = codes "blue"; host = None; cost = 9; precedence = Failed }) ∷ [];
    next = 3;
  };
  circuits = record { rows = (3, record { identity = 1; service = 1; terminator = 1; ingress = 1; links = 1 ∷ [] }) ∷ []; next = 4 };
}
