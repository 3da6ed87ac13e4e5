-- States of the worked examples, and what is left of them behind a dump.
use Rattle.std.specs.Prelude.{ℕ, ◌+◌, true, false, List, [], ◌∷◌, codes, None, Some}
use Rattle.channel_frame.specs.declared.frames.Frame.{Frame}
use Rattle.ctrl_model.specs.declared.commands.Command.{Command}
use Rattle.ctrl_model.specs.declared.kinds.Precedence.TheVariants.{Failed}
use Rattle.ctrl_model.specs.declared.kinds.Relation.TheVariants.{Dial, IdentityRouter}
use Rattle.ctrl_model.specs.declared.kinds.Semantic.TheVariants.{AllOf, AnyOf}
use Rattle.ctrl_model.specs.Numbered.{Table, no_rows}
use Rattle.ctrl_model.specs.State.{State}
use Rattle.ctrl_model.specs.ContentTypes.{content_of}
use Rattle.command_bodies.specs.BodyTexts.{body_text}
use Rattle.record_lines.specs.WorkedRecords.{all_side, connected_router, side_of, small_network}

-- A network of which some records are gone: bob is the host of a terminator and may no longer bind, r2 is not connected, the link is down.
abbrev pub worn_network : State
worn_network = record small_network {
  identities = record { rows = (1, record { name = codes "ann"; attributes = codes "staff" ∷ [] }) ∷ (3, record { name = codes "bob"; attributes = [] }) ∷ []; next = 5 };
  routers = record {
    rows =
        (2, connected_router (codes "r1"))
        ∷ (4, record { name = codes "r2"; attributes = codes "far" ∷ []; cost = 7; through = false; connected = false }) ∷ [];
    next = 5;
  };
  links = record { rows = (6, record { name = codes "l1"; a = 4; b = 2; cost = 11; latency_a = 3; latency_b = 9; up = false }) ∷ []; next = 9 };
  terminators = record {
    rows = (2, record { service = 1; router = 4; instance = codes "blue"; host = Some 3; cost = 9; precedence = Failed }) ∷ [];
    next = 4;
  };
  circuits = no_rows;
  least_router_cost = 20;
}

-- What a dump leaves of it: the same records by name, and other numbers. The policy that lent bob Bind had the first number.
abbrev pub worn_again : State
worn_again = record worn_network {
  identities = record { rows = (1, record { name = codes "ann"; attributes = codes "staff" ∷ [] }) ∷ (2, record { name = codes "bob"; attributes = [] }) ∷ []; next = 3 };
  routers = record {
    rows =
        (1, connected_router (codes "r1"))
        ∷ (2, record { name = codes "r2"; attributes = codes "far" ∷ []; cost = 7; through = false; connected = false }) ∷ [];
    next = 3;
  };
  links = record { rows = (1, record { name = codes "l1"; a = 2; b = 1; cost = 11; latency_a = 3; latency_b = 9; up = false }) ∷ []; next = 2 };
  terminators = record {
    rows = (1, record { service = 1; router = 2; instance = codes "blue"; host = Some 2; cost = 9; precedence = Failed }) ∷ [];
    next = 2;
  };
  service_policies = record {
    rows =
        (2, record { name = codes "dial"; relation = Dial; semantic = AnyOf; left = side_of (codes "staff"); right = side_of (codes "apps") }) ∷ [];
    next = 3;
  };
}

-- A state whose one policy names the attribute `all`, which no role list says.
abbrev pub unsaid_policy : State
unsaid_policy = record small_network {
  edge_router_policies = record {
    rows = (1, record { name = codes "edges"; relation = IdentityRouter; semantic = AllOf; left = all_side; right = side_of (codes "all") }) ∷ [];
    next = 2;
  };
}

-- The frames of commands, numbered from here on.
abbrev pub frames_of : ℕ → List Command → List Frame
frames_of n [] = []
frames_of n (c ∷ cs) = record { content = content_of c; sequence = n; headers = []; body = body_text c } ∷ frames_of (n + 1) cs
