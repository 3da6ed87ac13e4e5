-- What became of a small network, by hand.
use Rattle.std.specs.Prelude.{ℕ, false, List, [], ◌∷◌, codes}
use Rattle.ctrl_model.specs.State.{State}
use Rattle.record_lines.specs.WorkedRecords.{claimed_network, lone, small_network}

-- Its link is down, so the circuit over it ended.
abbrev pub cut_network : State
cut_network = record small_network {
  links = lone (record { name = codes "l1"; a = 1; b = 2; cost = 11; latency_a = 0; latency_b = 0; up = false });
  circuits = record { rows = []; next = 2 };
  serial = 1;
}

-- Ann lost the attribute, and bob came, who has it; the least router cost is another one.
abbrev pub staffed_network : State
staffed_network = record small_network {
  identities = record { rows = (1, record { name = codes "ann"; attributes = [] }) ∷ (2, record { name = codes "bob"; attributes = codes "staff" ∷ [] }) ∷ []; next = 3 };
  circuits = record { rows = []; next = 2 };
  least_router_cost = 20;
}

-- That network with two services, of which one claims nothing any more.
abbrev pub unclaimed_network : State
unclaimed_network = record claimed_network { intercepts = drop_first claimed_network.intercepts }
  where
    drop_first : {A : Type 0} → List A → List A
    drop_first [] = []
    drop_first (x ∷ xs) = xs

-- Lines of commands for the small network: a remark; ann loses her attribute; ann cannot come again; and her circuit
-- went with the grant.
abbrev pub unstaffing : List ℕ
unstaffing =
    codes "# staff\nUpdateIdentity {\"name\":\"ann\",\"attributes\":[]}\nCreateIdentity {\"name\":\"ann\"}\nDeleteCircuit {\"no\":1}\n"
