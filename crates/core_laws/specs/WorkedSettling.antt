-- What settles, and stores with a load, for worked examples.
use Rattle.std.specs.Prelude.{ℕ, List, [], ◌∷◌, codes, None, Some}
use Rattle.ctrl_model.specs.declared.commands.Command.TheVariants.{CreateService}
use Rattle.ctrl_model.specs.declared.kinds.Precedence.TheVariants.{Normal}
use Rattle.ctrl_model.specs.declared.kinds.Relation.TheVariants.{Dial}
use Rattle.ctrl_model.specs.Numbered.{with_removed}
use Rattle.ctrl_model.specs.State.{State, Terminator}
use Rattle.ctrl_model.specs.WorkedStates.{after, everyone, line_in_use, service_policy}
use Rattle.entity_store.specs.EntityTables.{no_entities}
use Rattle.fabric_graph.specs.FabricTables.{no_links}
use Rattle.policy_store.specs.PolicyTables.{no_policies}
use Rattle.circuits.specs.WorkedCircuits.{two_circuits}
use Rattle.core_stores.specs.declared.settled.Settled.{Settled}
use Rattle.core_stores.specs.declared.stores.Stores.{Stores}

-- Nothing settles.
abbrev pub nothing : Settled
nothing = record { links = []; terminators = []; going = []; ended = []; moves = [] }

-- A terminator of service 2 on router 3.
abbrev pub offer : Terminator
offer = record { service = 2; router = 3; instance = []; host = None; cost = 0; precedence = Normal }

-- Terminator 1, the same with a host of number 7.
abbrev pub hosted : List (ℕ × Terminator)
hosted = (1, record offer { host = Some 7 }) ∷ []

-- Stores of terminator 1 and two circuits to it, of which some are counted.
abbrev pub counting : ℕ → Stores
counting n = record {
  entities = no_entities;
  policies = no_policies;
  fabric = no_links;
  terminators = record { terminators = record { rows = (1, offer) ∷ []; next = 2 }; loads = (1, n) ∷ [] };
  circuits = two_circuits;
  grants = record { dial = []; bind = []; identity_router = []; service_router = [] };
  intercepts = [];
  serial = 0;
}

-- The line with a circuit over both its links, where the router in the middle is gone and nothing is settled yet.
abbrev pub without_the_middle : State
without_the_middle = record line_in_use { routers = with_removed 2 line_in_use.routers }

-- The same where the router at its end is gone, and the terminator there with it.
abbrev pub without_the_end : State
without_the_end = record line_in_use { routers = with_removed 3 line_in_use.routers }

-- The line in use, with a second service, mail, that everyone may dial, and whose circuit is one to mail: its terminator is present, and is
-- one of web. No run comes to it from the start, but it is valid, and a folder may have it.
abbrev pub with_another_service : State
with_another_service =
    record (after (CreateService (codes "mail") [] ∷ service_policy (codes "mails") Dial everyone everyone ∷ []) line_in_use) {
      circuits = record { rows = (1, record { identity = 1; service = 2; terminator = 1; ingress = 1; links = 1 ∷ 2 ∷ [] }) ∷ []; next = 2 };
    }
