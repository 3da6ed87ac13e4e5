-- Small networks for worked examples.
use Rattle.std.specs.Prelude.{ℕ, Bool, true, false, [], ◌∷◌, codes, None}
use Rattle.ctrl_model.specs.declared.kinds.Precedence.TheVariants.{Normal}
use Rattle.ctrl_model.specs.declared.kinds.RouterSeen.{RouterSeen}
use Rattle.ctrl_model.specs.Networks.{Network}
use Rattle.ctrl_model.specs.Numbered.{with_edit}
use Rattle.ctrl_model.specs.State.{State, Link}
use Rattle.ctrl_model.specs.WorkedStates.{detoured}
use Rattle.circuit_settling.specs.PresentRecords.{network}

-- A router that may be passed through or not, and is connected or not.
abbrev pub router : ℕ → Bool → Bool → RouterSeen
router number through connected = record { no = record { 0 = number }; cost = 0; through = through; connected = connected }

-- A link between two routers that is up or down.
abbrev pub link : ℕ → ℕ → Bool → Link
link a b up = record { name = codes "l"; a = a; b = b; cost = 1; latency_a = 5; latency_b = 5; up = up }

-- Three routers in a line: link 1 joins 1 and 2, and link 2, which is up or down, joins 2 and 3. Router 2 may be passed through
-- or not, and is connected or not. Terminator 1 is on router 3.
abbrev pub line : Bool → Bool → Bool → Network
line up through connected =
    network (record { terminators = record { rows = (1, record { service = 2; router = 3; instance = []; host = None; cost = 0; precedence = Normal }) ∷ []; next = 2 }; loads = [] })
    (record { links = record { rows = (1, link 1 2 true) ∷ (2, link 2 3 up) ∷ []; next = 3 }; least = 10 })
    (router 1 true true ∷ router 2 through connected ∷ router 3 true true ∷ [])

-- A circuit over the links 1 and 2, beside which link 3 goes straight to its end, where link 2 is down and nothing is settled yet.
abbrev pub unsettled : State
unsettled = record detoured { links = with_edit 2 (λ l. record l { up = false }) detoured.links }
